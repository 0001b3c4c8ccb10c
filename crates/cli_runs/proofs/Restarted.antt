-- Worked examples of one program after another: two files with the rooms of `room_laws`. In the
-- first alice works behind the folder until the power fails. In both the operator then changes
-- members, and eve, who is barred, asks a second server for the same.
use Rattle.std.proofs.Common.{◌≡◌, ◌⊎◌, ℕ, ℤ, List, [], ◌∷◌, ◌++◌, Some, None, Ok, IsTrue, inl, inr}
use Rattle.std.proofs.Common.{refl, sym, ap, subst, ◌∙◌, codes, true≢false}
use Rattle.std.proofs.lemmas.List.{append-nil}
use Rattle.sqlite_rules.specs.Lists.{Has}
use Rattle.sqlite.specs.{Effect.Database, Held.Held, State.State, Tree.Trees}
use Rattle.room_rows.specs.{Content.{Content, IsContent, with_members}, Keep.with_content}
use Rattle.room_rows.specs.Rows.{Rows}
use Rattle.room_machine.specs.Run.{Asked, Asking, ClosedRun, Event, HappensClosed, Replaced, Run}
use Rattle.room_machine.specs.declared.reply.Reply.{Reply, TheVariants.Denied}
use Rattle.room_machine.specs.declared.request.Request.TheVariants.{Read, Put}
use Rattle.room_machine.proofs.Worked.Worlds.{alice}
use Rattle.room_laws.specs.{Outside.{Barred, IsBehind, SameOutside}, Twins.{AnswersAlike, AreAlike}}
use Rattle.room_laws.specs.Twins.{InBoth, InBothReplaced, InFirst, Turn, first_events, front_at_end}
use Rattle.room_laws.specs.{Twins.second_events, Laws.{TellsNames, front_after}, Tidy.IsNumbered}
use Rattle.room_laws.specs.{Tidy.IsTidy, WhoChanged.{Changes, Makes, SameRights}}
use Rattle.room_laws.proofs.{Behind.same_on, OperatorAlike.replaced_alike, Orphans.content_is_tidy}
use Rattle.room_laws.proofs.{Quiet.stays_behind, SameReplies.bar_same, TidySteps.stays_tidy}
use Rattle.room_laws.proofs.Worked.{bob, draft, eve, memo, offer, one, one_numbered, other, plans}
use Rattle.room_laws.proofs.Worked.{front_stays, same_outside, unless_listed}
use Rattle.store_tables.specs.{Meaning.rows_of, Shown.{HasTables, Retains}}
use Rattle.room_http.specs.{Message.{Message, asked}, Stream.{Exchange, events_by}}
use Rattle.room_store.specs.{Crash.{HoldsRoom, IsRoomOf}, Kept.IsOfThisVersion}
use Rattle.cli_listen.specs.Visits.{Meeting, Visit, requests_of, unanswered_of}
use Rattle.cli_answer.specs.declared.outcome.Outcome.{Outcome, TheVariants.Answer}
use Rattle.cli_words.specs.declared.judging.Task.{Task}
use Rattle.cli_runs.specs.{Gains.{EachByRight, IsByRight}, Uses.{AnswerAlikeOver, Brings}}
use Rattle.cli_runs.specs.Uses.{ChangeByRight, CloseBy, Closes, Did, HappenBy, History}
use Rattle.cli_runs.specs.Uses.{LeaveWholeRequests, MayBeLeft, Served, StayClosed, Use}
use Rattle.cli_runs.proofs.Worked.{both_the_same, told, uploads_alter_nothing, visit}
use Rattle.cli_answer.specs.declared.outcome.TaskAnswer.TheVariants as answer
use Rattle.cli_words.specs.declared.judging.Task.TheVariants as task
use Rattle.cli_words.specs.declared.judging.RoomTask.TheVariants as room

-- ---- the members are changed

abbrev pairs : List (List ℕ × List ℕ)
pairs = (codes "guests", bob) ∷ []

abbrev groups : Task
groups = task.OnRoom (room.Groups pairs)

-- it printed that one group with one member is there now
abbrev replaced : Outcome
replaced = Answer (answer.Replaced 1 1)

one_is_content : IsContent one
one_is_content =
    record {
      numbers = refl;
      one_root = refl;
      parents = refl;
      connected = refl;
      names = refl;
      bodies = refl;
      kept = refl;
      members = refl;
    }

one_tidy : IsTidy one
one_tidy = content_is_tidy one one_is_content

abbrev changed_one : Content
changed_one = with_members one pairs

changed_tidy : IsTidy changed_one
changed_tidy = (stays_tidy one (Replaced pairs) changed_one one_numbered one_tidy refl).1

-- eve is barred then too, whatever happened behind the folder before
still_barred : (room next : Content) → IsNumbered room → IsTidy room → SameOutside plans one room
    → next ≡ with_members room pairs → Barred next (Some eve) plans
still_barred room next numbers tree same is = (
  Denied plans (0x20 ∷ []) None None,
  sym
      (bar_same plans changed_one next
      (replaced_alike plans one room changed_one next pairs same refl is changed_tidy
      (stays_tidy room (Replaced pairs) next numbers tree is).1) (Some eve)),
)

is_behind : IsBehind plans draft
is_behind = (codes "draft", [], refl)

-- what three uses brought, one after the other
joined : (events now later now2 later2 now3 later3 xs ys zs : List Event) → events ≡ now ++ later
    → later ≡ now2 ++ later2 → later2 ≡ now3 ++ later3 → later3 ≡ [] → now ≡ xs → now2 ≡ ys
    → now3 ≡ zs → events ≡ xs ++ (ys ++ zs)
joined events now later now2 later2 now3 later3 xs ys zs a b c d e f g =
    let none = append-nil zs in cc

both_joined : (events now later now2 later2 xs ys : List Event) → events ≡ now ++ later
    → later ≡ now2 ++ later2 → later2 ≡ [] → now ≡ xs → now2 ≡ ys → events ≡ xs ++ (ys ++ [])
both_joined events now later now2 later2 xs ys a b c d e = cc

-- the answer says that it is done, so it is
was_replaced : (new : State) (found : Content) (events : List Event)
    → Brings (Did groups replaced) new found events → events ≡ Replaced pairs ∷ []
was_replaced new found events (inl (none, isnt)) = absurd (isnt (1, 1, refl))
was_replaced new found events (inr (event, is, only)) = cc

module _ (m1 m2 m3 : Message) (t u v : ℤ) (bytes more : List ℕ) (r x y : Reply)
    (is1 : asked m1 ≡ Ok (Some alice, Put draft bytes))
    (is2 : asked m2 ≡ Ok (Some alice, Put draft more))
    (is3 : asked m3 ≡ Ok (Some eve, Read offer)) where
  -- the first server answered one message, and hadn't answered the next when the power failed
  abbrev hers : Meeting → Visit
  hers meeting = record (visit t meeting (told m1 r ∷ [])) { failed = Some m2 }

  -- eve asks, and then anybody may ask the same server for whatever
  abbrev asks_for : ℤ → Reply → List Exchange → Meeting → Visit
  asks_for moment reply after meeting = visit moment meeting (told m3 reply ∷ after)

  abbrev upload : Event
  upload = Asked (Some alice) t (Put draft bytes) r

  abbrev another : Reply → Event
  another = Asked (Some alice) t (Put draft more)

  abbrev asks : ℤ → Reply → Event
  asks moment reply = Asked (Some eve) moment (Read offer) reply

  her_requests : (meeting : Meeting) → requests_of (hers meeting ∷ []) ≡ upload ∷ []
  her_requests meeting = rw (is1) refl

  her_unanswered : (meeting : Meeting) → unanswered_of (hers meeting ∷ []) ≡ another ∷ []
  her_unanswered meeting = rw (is2) refl

  requests_for : (moment : ℤ) (reply : Reply) (after : List Exchange) (meeting : Meeting)
      → requests_of (asks_for moment reply after meeting ∷ [])
      ≡ asks moment reply ∷ events_by moment after
  requests_for moment reply after meeting =
      rw (is3) (ap (λ (es : List Event). asks moment reply ∷ es)
      (append-nil (events_by moment after)))

  abbrev IsFirst : List Event → Type 0
  IsFirst events = (events ≡ upload ∷ []) ⊎ ((s : Reply) × (events ≡ upload ∷ another s ∷ []))

  by_alice : (meeting : Meeting) (new : State) (found : Content) (events : List Event)
      → Brings (Served (hers meeting ∷ [])) new found events → IsFirst events
  by_alice meeting new found events (inl is) = inl (is ∙ her_requests meeting)
  by_alice meeting new found events (inr (shut, asking, has, reply, is)) =
      on (subst (λ (l : List Asking). Has l asking) (her_unanswered meeting) has)
    where
      on : Has (another ∷ []) asking → IsFirst events
      on (inl same) =
          inr (
            reply,
            is
                ∙ subst (λ (l : List Event). requests_of (hers meeting ∷ []) ++ asking reply ∷ []
                ≡ l ++ asking reply ∷ []) (her_requests meeting) refl
                ∙ subst (λ (a : Asking). upload ∷ asking reply ∷ [] ≡ upload ∷ a reply ∷ []) same refl,
          )
      on (inr none) = absurd none

  -- a server whose connection is open at its end brought what it answered, and nothing else
  by_eve : (moment : ℤ) (reply : Reply) (after : List Exchange) (meeting : Meeting) (new : State)
      (found : Content) (events : List Event) → IsTrue new.is_open
      → Brings (Served (asks_for moment reply after meeting ∷ [])) new found events
      → events ≡ asks moment reply ∷ events_by moment after
  by_eve moment reply after meeting new found events is_open (inl is) =
      is ∙ requests_for moment reply after meeting
  by_eve moment reply after meeting new found events is_open
      (inr (shut, asking, has, answer, is)) =
      absurd (true≢false (sym is_open ∙ shut))

  module _ {S T : Type 0} (shown : Held S → State) (seen : Held T → State)
      (a0 a1 a2 a3 a4 a5 : Held S) (b0 b1 b2 b3 : Held T) (k k' k'' : Meeting)
      (after : List Exchange) (is_open : IsTrue (shown a5).is_open)
      (still_open : IsTrue (seen b3).is_open) where
    abbrev first : Use S
    first = (Served (hers k ∷ []), a0, a1)

    abbrev uses : List (Use S)
    uses = (Did groups replaced, a2, a3) ∷ (Served (asks_for u x after k' ∷ []), a4, a5) ∷ []

    abbrev beside : Use T
    beside = (Did groups replaced, b0, b1)

    abbrev others : List (Use T)
    others = (Served (asks_for v y [] k'' ∷ []), b2, b3) ∷ []

    abbrev rest : List Event
    rest = Replaced pairs ∷ asks u x ∷ events_by u after

    abbrev IsAll : List Event → Type 0
    IsAll events = (events ≡ upload ∷ rest) ⊎ ((s : Reply) × (events ≡ upload ∷ another s ∷ rest))

    -- alice's second message was carried out as a whole, or not at all; and all else happened
    all_happened : (events : List Event) (left : Content)
        → HappenBy shown (first ∷ uses) one events left → IsAll events
    all_happened events left (
      now,
      later,
      mid,
      e,
      by,
      run,
      (now2, later2, mid2, e2, by2, run2, (now3, later3, mid3, e3, by3, run3, (none, is))),
    ) =
        let second = was_replaced (shown a3) mid now2 by2 in
        let third = by_eve u x after k' (shown a5) mid2 now3 is_open by3 in
        on second third (by_alice k (shown a1) one now by)
      where
        on : now2 ≡ Replaced pairs ∷ [] → now3 ≡ asks u x ∷ events_by u after → IsFirst now
            → IsAll events
        on second third (inl is) =
            inl (joined events now later now2 later2 now3 later3 (upload ∷ [])
            (Replaced pairs ∷ []) (asks u x ∷ events_by u after) e e2 e3 none is second third)
        on second third (inr (s, is)) =
            inr (
              s,
              joined events now later now2 later2 now3 later3 (upload ∷ another s ∷ [])
                  (Replaced pairs ∷ []) (asks u x ∷ events_by u after) e e2 e3 none is second third,
            )

    all_beside : (events : List Event) (left : Content)
        → HappenBy seen (beside ∷ others) other events left
        → events ≡ Replaced pairs ∷ asks v y ∷ []
    all_beside events left
        (now, later, mid, e, by, run, (now2, later2, mid2, e2, by2, run2, (none, is))) =
        both_joined events now later now2 later2 (Replaced pairs ∷ []) (asks v y ∷ []) e e2 none
        (was_replaced (seen b1) other now by) (by_eve v y [] k'' (seen b3) mid now2 still_open by2)

    -- ---- what a power cut leaves

    module _ (is_one : IsRoomOf one (shown a0).now) (db : Trees)
        (may : MayBeLeft shown first uses db) where
      whole_requests_are_left : LeaveWholeRequests shown first uses
          → (left : Content) × HoldsRoom left db × ((events : List Event) × IsAll events
          × Run one events left)
      whole_requests_are_left leaves =
          let it = leaves one is_one db may in
          (it.left, it.holds, (it.events, all_happened it.events it.left it.happened, it.run))

      -- ---- whose rights stay

      -- bob may do the same at the memo until the members are changed, and from then on until
      -- somebody asks for whatever
      abbrev OnlyByMembers : Content → Type 0
      OnlyByMembers left = (mid next last : Content) × SameRights memo one mid
          × (next ≡ with_members mid pairs) × SameRights memo next last
          × Run last (events_by u after) left

      by_reading : (room next : Content) → IsByRight memo room (asks u x) next
          → SameRights memo room next
      by_reading room next by_right = on by_right.entitled
        where
          on : SameRights memo room next ⊎ (Changes memo room (asks u x) ⊎ Makes memo room (asks u x))
              → SameRights memo room next
          on (inl same) = same
          on (inr (inl changes)) = absurd changes
          on (inr (inr makes)) = absurd makes

      by_one : (left : Content) (run : Run one (upload ∷ rest) left)
          → EachByRight (upload ∷ rest) one left run → OnlyByMembers left
      by_one left (c1, h1, (c2, h2, (c3, h3, run))) (by1, (by2, (by3, by4))) = (
        c1,
        c2,
        c3,
        uploads_alter_nothing one c1 t bytes r memo ([], refl) (by1 memo),
        h2,
        by_reading c2 c3 (by3 memo),
        run,
      )

      by_two : (s : Reply) (left : Content) (run : Run one (upload ∷ another s ∷ rest) left)
          → EachByRight (upload ∷ another s ∷ rest) one left run → OnlyByMembers left
      by_two s left (c0, h0, (c1, h1, (c2, h2, (c3, h3, run)))) (by0, (by1, (by2, (by3, by4)))) = (
        c1,
        c2,
        c3,
        both_the_same one c0 c1
            (uploads_alter_nothing one c0 t bytes r memo ([], refl) (by0 memo))
            (uploads_alter_nothing c0 c1 t more s memo ([], refl) (by1 memo)),
        h2,
        by_reading c2 c3 (by3 memo),
        run,
      )

      rights_change_by_members_alone : ChangeByRight shown first uses
          → (left : Content) × HoldsRoom left db × OnlyByMembers left
      rights_change_by_members_alone changes =
          let it = changes one is_one db may in
          let run : (run : Run one it.0.events it.0.left) × EachByRight it.0.events one it.0.left run
          = (it.0.run, it.1) in (
            it.0.left,
            it.0.holds,
            on it.0.left it.0.events (all_happened it.0.events it.0.left it.0.happened) run,
          )
        where
          on : (left : Content) (events : List Event) → IsAll events
              → (run : Run one events left) × EachByRight events one left run → OnlyByMembers left
          on left events (inl is) run =
              let it = subst (λ (es : List Event). (run : Run one es left)
              × EachByRight es one left run) is run in
              by_one left it.0 it.1
          on left events (inr (s, is)) run =
              let it = subst (λ (es : List Event). (run : Run one es left)
              × EachByRight es one left run) is run in
              by_two s left it.0 it.1

    -- ---- what eve is told

    abbrev later_turns : List Turn
    later_turns = InBothReplaced pairs ∷ InBoth (Some eve) u v (Read offer) x y ∷ []

    last_alike : (room left : Content) → IsNumbered room → IsTidy room → SameOutside plans one room
        → (run : Run room (first_events later_turns) left) → AreAlike plans later_turns room left run
    last_alike room left numbers tree same (c1, h1, (c2, h2, is)) = (
      (
        (λ no. absurd (let wrong : ⊥ = cc in wrong)),
        (λ reaches. still_barred room c1 numbers tree same h1),
      ),
      tt,
    )

    alike : (left : Content) (run : Run one (first_events (InFirst upload ∷ later_turns)) left)
        → AreAlike plans (InFirst upload ∷ later_turns) one left run
    alike left (c1, h1, run) =
        let same = stays_behind plans one upload c1 one_numbered (inl (is_behind, is_behind)) h1 in
        let tidy = stays_tidy one upload c1 one_numbered one_tidy h1 in
        (inl (is_behind, is_behind), last_alike c1 left tidy.0 tidy.1 same.0 run)

    alike_too : (s : Reply) (left : Content)
        (run : Run one (first_events (InFirst upload ∷ InFirst (another s) ∷ later_turns)) left)
        → AreAlike plans (InFirst upload ∷ InFirst (another s) ∷ later_turns) one left run
    alike_too s left (c0, h0, (c1, h1, run)) =
        let same = stays_behind plans one upload c0 one_numbered (inl (is_behind, is_behind)) h0 in
        let tidy = stays_tidy one upload c0 one_numbered one_tidy h0 in
        let then = stays_behind plans c0 (another s) c1 tidy.0 (inl (is_behind, is_behind)) h1 in
        let end = stays_tidy c0 (another s) c1 tidy.0 tidy.1 h1 in (
          inl (is_behind, is_behind),
          (
            inl (is_behind, is_behind),
            last_alike c1 left end.0 end.1 (same_on plans one c0 c1 same.0 then.0) run,
          ),
        )

    module _ (is_one : IsRoomOf one (shown a0).now) (is_other : IsRoomOf other (seen b0).now)
        (db db' : Trees) (may : MayBeLeft shown first uses db)
        (may' : MayBeLeft seen beside others db') where
      abbrev GetsTheSame : Content → Content → Type 0
      GetsTheSame left left' =
          (x ≡ y) × (events_by u after ≡ [] → SameOutside plans left left')

      get_the_same : (left left' : Content)
          → ((x ≡ y) ⊎ TellsNames plans (Read offer) x y)
          → (events_by u after ≡ [] → SameOutside (front_after plans (Read offer) x) left left')
          → GetsTheSame left left'
      get_the_same left left' answers same = (
        unless_listed plans (Read offer) x y (λ is. let wrong : ⊥ = cc in wrong) answers,
        λ none. subst (λ (f : List (List ℕ)). SameOutside f left left')
            (front_stays plans (Read offer) x refl) (same none),
      )

      -- if nobody asks for more, the rooms that are left are the same outside too

      eve_gets_the_same : AnswerAlikeOver shown seen plans first uses beside others
          → (left left' : Content) × HoldsRoom left db × HoldsRoom left' db'
          × GetsTheSame left left'
      eve_gets_the_same answers =
          let it = answers one other is_one is_other same_outside db db' may may' in
          (it.0.left, it.1.left, it.0.holds, it.1.holds, on it.0 it.1 it.2)
        where
          on : (mine : History shown first uses one db)
              (theirs : History seen beside others other db')
              → ((turns : List Turn) (rest more : List Event) → first_events turns ++ rest ≡ mine.events
              → second_events turns ++ more ≡ theirs.events
              → ((next : Content) (run : Run one (first_events turns) next)
              → AreAlike plans turns one next run)
              → AnswersAlike plans turns × (rest ≡ [] → more ≡ []
              → SameOutside (front_at_end plans turns) mine.left theirs.left))
              → GetsTheSame mine.left theirs.left
          on mine theirs answers =
              by (all_happened mine.events mine.left mine.happened)
            where
              second : Replaced pairs ∷ asks v y ∷ [] ≡ theirs.events
              second = sym (all_beside theirs.events theirs.left theirs.happened)

              by : IsAll mine.events → GetsTheSame mine.left theirs.left
              by (inl is) =
                  let told = answers (InFirst upload ∷ later_turns) (events_by u after) [] (sym is)
                  second alike in
                  get_the_same mine.left theirs.left told.0.0 (λ none. told.1 none refl)
              by (inr (s, is)) =
                  let told = answers (InFirst upload ∷ InFirst (another s) ∷ later_turns)
                  (events_by u after) [] (sym is) second (alike_too s) in
                  get_the_same mine.left theirs.left told.0.0 (λ none. told.1 none refl)

    -- ---- where the room is damaged

    module _ (tables : HasTables (seen b0).now) (version : IsOfThisVersion (seen b0).now)
        (db : Trees) (may : MayBeLeft seen beside others db) where
      abbrev found : Rows
      found = rows_of (seen b0).now

      abbrev IsChanged : Rows → Rows → Type 0
      IsChanged mid left = (mid ≡ with_content found (with_members found.read pairs))
          × ClosedRun mid (asks v y ∷ []) left

      nothing_else_is_changed : StayClosed seen beside others
          → (it : Database) × (db ≡ it.trees) × Retains (seen b0).now.trees it.trees
          × ((mid : Rows) × IsChanged mid (rows_of it))
      nothing_else_is_changed closed =
          let it = closed tables version db may in (
            it.0,
            it.2,
            it.1.retains,
            (it.3.0, (on it.3.0 it.3.1, then it.3.0 (rows_of it.0) it.3.2)),
          )
        where
          on : (mid : Rows) → Closes (Did groups replaced) (seen b1) found mid
              → mid ≡ with_content found (with_members found.read pairs)
          on mid (inl (same, isnt)) = absurd (isnt (1, 1, refl))
          on mid (inr (event, is, happens)) =
              subst (λ (e : Event). HappensClosed found e mid) is happens

          then : (mid left : Rows) → CloseBy seen others mid left
              → ClosedRun mid (asks v y ∷ []) left
          then mid left (last, inl run, is) =
              subst (λ (rows : Rows). ClosedRun mid (asks v y ∷ []) rows) (sym is)
              (subst (λ (events : List Event). ClosedRun mid events last)
              (requests_for v y [] k'') run)
          then mid left (last, inr shut, is) = absurd (true≢false (sym still_open ∙ shut))
