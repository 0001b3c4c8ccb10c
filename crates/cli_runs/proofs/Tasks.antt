-- A task whose outcome says that it is done has had its step.
use Rattle.std.proofs.Common.{◌≡◌, ◌⊎◌, ℕ, List, [], ◌∷◌, Result, Ok, Err, IsTrue, inl, inr, refl}
use Rattle.std.proofs.Common.{sym, subst}
use Rattle.sqlite.specs.{Effect.Database, Held.Held, State.{State, HasCleanDisk}}
use Rattle.room_entry.specs.declared.object.Which.{Which}
use Rattle.room_ace.specs.Sent.{Sent}
use Rattle.room_judge.specs.Judged.{Resets}
use Rattle.room_machine.specs.Run.{Event, HappensClosed, Replaced, RunsMeet, WasReset, event_of}
use Rattle.room_machine.specs.declared.reply.Reply.{Reply}
use Rattle.store_admin.specs.{Changing.{ChangesMembers, changed}, Operating.ReplacesMembers}
use Rattle.store_admin.specs.declared.changing.Changed.{Changed}
use Rattle.room_rows.specs.Rows.{Rows}
use Rattle.store_tables.specs.{Meaning.rows_of, Paired.Pair, Shown.{HasTables, Retains}}
use Rattle.store_request.specs.Inside.{HasDamage}
use Rattle.store_schema.specs.declared.fault.OpenFault.{OpenFault}
use Rattle.store_transaction.specs.declared.fault.StoreFault.{StoreFault}
use Rattle.room_store.specs.{Lasting.on, Leads.Leads, Opens.Opens, Premise.StorePremise, Ran.Ran}
use Rattle.cli_act.specs.Doing.{DoesTask, OpensNot, after_changing, after_fault, after_replacing}
use Rattle.cli_act.specs.Doing.{after_reset}
use Rattle.cli_answer.specs.{Outcome.not_opened, declared.outcome.Outcome.Outcome}
use Rattle.cli_answer.specs.declared.outcome.{Outcome.TheVariants.Answer, TaskAnswer.TaskAnswer}
use Rattle.cli_words.specs.declared.judging.Task.{Task}
use Rattle.cli_runs.specs.Uses.{Operates, SaysDone}
use Rattle.cli_answer.specs.declared.outcome.TaskAnswer.TheVariants as answer
use Rattle.cli_words.specs.declared.judging.Task.TheVariants as task
use Rattle.cli_words.specs.declared.judging.RoomTask.TheVariants as room

-- the answers of these tasks
abbrev is_done : TaskAnswer → Type 0
is_done (answer.Replaced groups members) = Unit {0}
is_done (answer.Changed joined left members) = Unit {0}
is_done answer.ListSet = Unit {0}
is_done other = ⊥

abbrev AreDone : Outcome → Type 0
AreDone (Answer told) = is_done told
AreDone other = ⊥

said : (work : Task) (outcome : Outcome) → SaysDone work outcome → AreDone outcome
said (task.OnRoom (room.Groups pairs)) outcome (groups, members, is) =
    subst AreDone (sym is) tt
said (task.OnRoom (room.Change joins leaves)) outcome (joined, left, members, is) =
    subst AreDone (sym is) tt
said (task.OnRoom (room.Reset path which sent)) outcome is = subst AreDone (sym is) tt
said (task.Init owners) outcome none = absurd none
said task.Migrate outcome none = absurd none
said (task.OnRoom room.GroupsOut) outcome none = absurd none
said (task.OnRoom room.Audit) outcome none = absurd none
said (task.OnRoom room.Dump) outcome none = absurd none
said (task.OnRoom (room.Get path)) outcome none = absurd none
said (task.OnRoom (room.Review path user all)) outcome none = absurd none
said (task.OnRoom room.Verify) outcome none = absurd none

not_done : (fault : OpenFault) → AreDone (not_opened fault) → ⊥
not_done OpenFault.NotRooms none = none
not_done (OpenFault.OldVersion number) none = none
not_done (OpenFault.NewVersion number) none = none
not_done OpenFault.Db none = none
not_done OpenFault.Memory none = none

-- the tables of a room after this event
abbrev pub IsSeen : Event → Database → Database → Type 0
IsSeen event old new = HasTables new × Retains old.trees new.trees
    × HappensClosed (rows_of old) event (rows_of new)

-- its one step is what happened, over a connection that is still open
pub record Happened (work : Task) (old new : State) : Type 0 where
  pub event : Event
  pub operates : Operates work (rows_of old.now).read.members event
  pub leads : Leads old (event ∷ []) new
  pub is_open : IsTrue new.is_open
  pub seen : HasTables old.now → IsSeen event old.now new.now

abbrev pub IsSettled : Task → Outcome → State → State → Type 0
IsSettled work outcome old new = Happened work old new ⊎ (SaysDone work outcome → ⊥)

module _ (meet : RunsMeet) (old mid new : State) (clean : HasCleanDisk new)
    (opens : Opens old mid (Ok tt)) (outcome : Outcome) where
  -- what leads on from where it was opened
  led : (event : Event) → Leads mid (event ∷ []) new → Leads old (event ∷ []) new
  led event leads = on meet old mid new [] (event ∷ []) opens.leads leads

  -- what an answer says of the tables that were opened
  module _ {X : Type 0} (x : X) (Blames : Rows → Type 0) (Becomes : Rows → X → Rows → Type 0)
      (ran : Ran mid new (Ok x) Blames Becomes) where
    same : mid.now ≡ old.now
    same = (opens.adopts.kept (ran.leaves.clean clean) (ran.answers clean).0).0

    abbrev Becoming : Database → Type 0
    Becoming db = HasTables db → HasTables new.now × Retains db.trees new.now.trees
        × Becomes (rows_of db) x (rows_of new.now)

    becoming : Becoming old.now
    becoming = subst (λ (db : Database). Becoming db) same from_mid
      where
        from_mid : Becoming mid.now
        from_mid tables =
            let premise : StorePremise mid new = record { disk = clean; tables = tables } in
            let is_open = (ran.answers clean).1 in
            (ran.tables premise is_open, ran.retains premise is_open, ran.step premise)

  -- a fault is no such answer
  failed : (work : Task) (fault : StoreFault) → outcome ≡ after_fault fault
      → IsSettled work outcome old new
  failed work fault told = inr (λ says. subst AreDone told (said work outcome says))

  replaced : (pairs : List Pair) (result : Result (Unit {0}) StoreFault)
      → Ran mid new result (λ _. ⊥) (ReplacesMembers pairs)
      → Leads mid (event_of result (λ _. Replaced pairs)) new
      → outcome ≡ after_replacing pairs result
      → IsSettled (task.OnRoom (room.Groups pairs)) outcome old new
  replaced pairs (Ok done) ran leads told =
      inl
      (record {
        event = Replaced pairs;
        operates = refl;
        leads = led (Replaced pairs) leads;
        is_open = (ran.answers clean).1;
        seen = becoming done (λ _. ⊥) (ReplacesMembers pairs) ran;
      })
  replaced pairs (Err fault) ran leads told = failed _ fault told

  change : (joins leaves : List Pair) (result : Result Changed StoreFault)
      → Ran mid new result (λ _. ⊥) (ChangesMembers joins leaves)
      → Leads mid (event_of result
      (λ _. Replaced (changed joins leaves (rows_of mid.now).read.members))) new
      → outcome ≡ after_changing result
      → IsSettled (task.OnRoom (room.Change joins leaves)) outcome old new
  change joins leaves (Ok done) ran leads told =
      let to : Database → Event =
      λ db. Replaced (changed joins leaves (rows_of db).read.members) in
      inl
      (record {
        event = to old.now;
        operates = refl;
        leads = led (to old.now)
            (subst (λ (db : Database). Leads mid (to db ∷ []) new)
            (same done (λ _. ⊥) (ChangesMembers joins leaves) ran) leads);
        is_open = (ran.answers clean).1;
        seen = λ tables.
            let it = becoming done (λ _. ⊥) (ChangesMembers joins leaves) ran tables in
            (it.0, it.1, it.2.replaces);
      })
  change joins leaves (Err fault) ran leads told = failed _ fault told

  reset : (path : List (List ℕ)) (which : Which) (sent : Sent) (result : Result Reply StoreFault)
      → Ran mid new result HasDamage (Resets path which sent)
      → Leads mid (event_of result (WasReset path which sent)) new
      → outcome ≡ after_reset result
      → IsSettled (task.OnRoom (room.Reset path which sent)) outcome old new
  reset path which sent (Ok reply) ran leads told =
      inl
      (record {
        event = WasReset path which sent reply;
        operates = (reply, refl);
        leads = led (WasReset path which sent reply) leads;
        is_open = (ran.answers clean).1;
        seen = λ tables.
            let it = becoming reply HasDamage (Resets path which sent) ran tables in
            (it.0, it.1, it.2.closed);
      })
  reset path which sent (Err fault) ran leads told = failed _ fault told

module _ {S : Type 0} (shown : Held S → State) (meet : RunsMeet) (old new : Held S)
    (clean : HasCleanDisk (shown new)) (outcome : Outcome) where
  abbrev Settled : Task → Type 0
  Settled work = IsSettled work outcome (shown old) (shown new)

  not_opened_is : (work : Task) → OpensNot shown old outcome new → Settled work
  not_opened_is work not =
      inr (λ says. not_done not.fault (subst AreDone not.told (said work outcome says)))

  pub settled : (work : Task) → DoesTask shown work old outcome new → Settled work
  settled (task.Init owners) does = inr (λ none. none)
  settled task.Migrate does = inr (λ none. none)
  settled (task.OnRoom (room.Groups pairs)) (inl opened) =
      let it = opened.works in
      replaced meet (shown old) (shown opened.mid) (shown new) clean opened.opens outcome pairs
      it.result it.ran it.leads it.told
  settled (task.OnRoom (room.Groups pairs)) (inr not) = not_opened_is _ not
  settled (task.OnRoom (room.Change joins leaves)) (inl opened) =
      let it = opened.works in
      change meet (shown old) (shown opened.mid) (shown new) clean opened.opens outcome joins leaves
      it.result it.ran it.leads it.told
  settled (task.OnRoom (room.Change joins leaves)) (inr not) = not_opened_is _ not
  settled (task.OnRoom (room.Reset path which sent)) (inl opened) =
      let it = opened.works in
      reset meet (shown old) (shown opened.mid) (shown new) clean opened.opens outcome path which
      sent it.result it.ran it.leads it.told
  settled (task.OnRoom (room.Reset path which sent)) (inr not) = not_opened_is _ not
  settled (task.OnRoom room.GroupsOut) does = inr (λ none. none)
  settled (task.OnRoom room.Audit) does = inr (λ none. none)
  settled (task.OnRoom room.Dump) does = inr (λ none. none)
  settled (task.OnRoom (room.Get path)) does = inr (λ none. none)
  settled (task.OnRoom (room.Review path user all)) does = inr (λ none. none)
  settled (task.OnRoom room.Verify) does = inr (λ none. none)
