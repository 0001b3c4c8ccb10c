-- Over a list of uses of one file: what happened up to what is left.
use Rattle.std.proofs.Common.{◌≡◌, ℕ, List, [], ◌∷◌, ◌++◌, refl, sym, ap, subst, ◌∙◌}
use Rattle.std.proofs.lemmas.List.{append-nil}
use Rattle.sqlite.specs.{Effect.Database, Held.Held, State.State}
use Rattle.room_rows.specs.Content.{Content}
use Rattle.room_inherit.specs.Laws.{SoundIsContent, SoundIsNoFault}
use Rattle.room_machine.specs.Run.{Event, Run, RunsMeet}
use Rattle.room_laws.specs.{Tidy.{ContentIsTidy, StaysTidy}, Twins.{Unseen, first_events}}
use Rattle.room_laws.specs.{Twins.second_events, WhoChanged.{ChangedBy, NothingGained}}
use Rattle.room_laws.specs.WhoChanged.{RightsChangedBy}
use Rattle.store_tables.{specs.{Meaning.rows_of, Shown.tables_of}, proofs.Calls.retains_on}
use Rattle.room_store.specs.Crash.{IsRoomOf}
use Rattle.store_runs.proofs.Rooms.{numbered, tidy}
use Rattle.cli_serve.specs.Hosts.{IsStillRoom}
use Rattle.cli_runs.specs.Uses.{AnswerAlikeOver, ChangeByRight, Closes, Follow, IsUse}
use Rattle.cli_runs.{specs.Uses.{LeaveWholeRequests, StayClosed, Use}, proofs.Each.each_by_right}
use Rattle.cli_runs.proofs.{Runs.first_run, Uses.{leaves_closed, leaves_whole, same_room}}
use Rattle.cli_runs.proofs.Uses.{still_room}

module _ {S : Type 0} (shown : Held S → State) (law : SoundIsNoFault) (meet : RunsMeet) where
  first_is : (one : Use S) (uses : List (Use S)) → Follow shown one uses → IsUse shown one
  first_is one [] follow = follow
  first_is one (next ∷ uses) follow = follow.0

  -- ---- on any rows

  pub stay_closed : (one : Use S) (uses : List (Use S)) → Follow shown one uses
      → StayClosed shown one uses
  stay_closed one [] is tables version db left =
      let it = leaves_closed shown law meet one.1 one.2 is.begins is.clean db left tables version
      one.0 is.done in
      (it.0, it.1, it.2, (rows_of it.0, it.3, refl))
  stay_closed one (next ∷ uses) (is, finds, follow) tables version db left =
      let it = leaves_closed shown law meet one.1 one.2 is.begins is.clean
      (shown next.1).now.trees finds tables version one.0 is.done in
      let begins = (first_is next uses follow).begins in
      let same = same_room (shown next.1).now it.0 begins.tables it.1.room it.2 in
      let found = subst (λ (d : Database). IsStillRoom (shown one.1).now d) (sym same) it.1 in
      let closes = subst (λ (d : Database). Closes one.0 (shown one.2) (rows_of (shown one.1).now)
      (rows_of d)) (sym same) it.3 in
      let rest = stay_closed next uses follow (tables_of found.room) found.version db left in (
        rest.0,
        still_room (shown one.1).now rest.0 version rest.1.room
            (retains_on (shown one.1).now.trees (shown next.1).now.trees rest.0.trees found.retains
            rest.1.retains),
        rest.2,
        (rows_of (shown next.1).now, closes, rest.3),
      )

  -- ---- in a sound room

  pub leave_whole : (one : Use S) (uses : List (Use S)) → Follow shown one uses
      → LeaveWholeRequests shown one uses
  leave_whole one [] is found room db left =
      let it = leaves_whole shown law meet one.1 one.2 is.begins is.clean db left found room one.0
      is.done in
      record {
        events = it.0;
        left = it.1;
        happened = (it.0, [], it.1, sym (append-nil it.0), it.2, it.3, (refl, refl));
        run = it.3;
        holds = it.4;
      }
  leave_whole one (next ∷ uses) (is, finds, follow) found room db left =
      let it = leaves_whole shown law meet one.1 one.2 is.begins is.clean (shown next.1).now.trees
      finds found room one.0 is.done in
      let begins = (first_is next uses follow).begins in
      let same = same_room (shown next.1).now it.4.0 begins.tables it.4.1.tables it.4.2 in
      let then = subst (λ (d : Database). IsRoomOf it.1 d) (sym same) it.4.1 in
      let rest = leave_whole next uses follow it.1 then db left in
      record {
        events = it.0 ++ rest.events;
        left = rest.left;
        happened = (it.0, rest.events, it.1, refl, it.2, it.3, rest.happened);
        run = meet found it.1 rest.left it.0 rest.events it.3 rest.run;
        holds = rest.holds;
      }

  pub change_by_right : RightsChangedBy → ChangedBy → NothingGained → StaysTidy → ContentIsTidy
      → SoundIsContent → (one : Use S) (uses : List (Use S)) → Follow shown one uses
      → ChangeByRight shown one uses
  change_by_right rights changes nothing stays tidies contents one uses follow found room db left =
      let it = leave_whole one uses follow found room db left in (
        it,
        each_by_right rights changes nothing stays it.events found it.left
            (numbered found (shown one.1).now room)
            (tidy tidies contents found (shown one.1).now room) it.run,
      )

-- ---- two files

module _ {S T : Type 0} (shown : Held S → State) (seen : Held T → State) (law : SoundIsNoFault)
    (meet : RunsMeet) (tidies : ContentIsTidy) (contents : SoundIsContent) (unseen : Unseen)
    (front : List (List ℕ)) where
  -- a run up to some of what happened
  up_to : (a next : Content) (xs ys events : List Event) → xs ++ ys ≡ events → Run a events next
      → (mid : Content) × Run a xs mid
  up_to a next xs ys events is run =
      first_run xs ys a next (subst (λ (es : List Event). Run a es next) (sym is) run)

  all_of : (a next : Content) (xs ys events : List Event) → xs ++ ys ≡ events → ys ≡ []
      → Run a events next → Run a xs next
  all_of a next xs ys events is none run =
      let same : events ≡ xs = sym is ∙ ap (λ (es : List Event). xs ++ es) none ∙ append-nil xs in
      subst (λ (es : List Event). Run a es next) same run

  pub answer_alike : (first : Use S) (uses : List (Use S)) (other : Use T) (others : List (Use T))
      → Follow shown first uses → Follow seen other others
      → AnswerAlikeOver shown seen front first uses other others
  answer_alike first uses other others follow follow' a b is is' same db beside left left' =
      let one = leave_whole shown law meet first uses follow a is db left in
      let two = leave_whole seen law meet other others follow' b is' beside left' in (
        one,
        two,
        λ turns rest more firsts seconds alike.
            let it = up_to a one.left (first_events turns) rest one.events firsts one.run in
            let its = up_to b two.left (second_events turns) more two.events seconds two.run in
            let answers = λ (c d : Content) (run : Run a (first_events turns) c)
            (runs : Run b (second_events turns) d).
            unseen front turns a b c d same
            (tidy tidies contents a (shown first.1).now is)
            (tidy tidies contents b (seen other.1).now is')
            (numbered a (shown first.1).now is) (numbered b (seen other.1).now is')
            run runs (alike c run) in (
              (answers it.0 its.0 it.1 its.1).0,
              λ none none'.
                  (answers one.left two.left
                  (all_of a one.left (first_events turns) rest one.events firsts none one.run)
                  (all_of b two.left (second_events turns) more two.events seconds none' two.run)).1,
            ),
      )
