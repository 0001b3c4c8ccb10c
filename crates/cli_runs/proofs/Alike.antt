-- Two servers to which the same messages come have runs that are alike.
use Rattle.std.proofs.Common.{◌≡◌, ℕ, ℤ, List, [], ◌∷◌, ◌++◌, Option, None, Some, Ok, Err, All}
use Rattle.std.proofs.Common.{inl, inr, refl, sym, ap, subst, ◌∙◌, IfSome, map}
use Rattle.std.{proofs.{lemmas.Grind.flat_map-append, lemmas.List.append-nil}, specs.List.{AllByRecursion, flat_map}}
use Rattle.sqlite_rules.specs.Lists.{Has}
use Rattle.sqlite.specs.{State.{State, HasCleanDisk}, Tree.Trees}
use Rattle.room_rows.specs.Content.{Content}
use Rattle.room_inherit.specs.Laws.{SoundIsContent}
use Rattle.room_machine.specs.{Run.{Asking, Event, Happens, Run}, declared.reply.Reply.Reply}
use Rattle.room_laws.specs.{Laws.{HappensUnseen, StaysBehind}, Outside.SameOutside}
use Rattle.room_laws.specs.{Tidy.{ContentIsTidy, IsNumbered, StaysTidy}, Twins.AnswersAlike}
use Rattle.room_laws.specs.Twins.{InFirst, InSecond, Turn, Unseen, first_events, front_at_end}
use Rattle.room_laws.{specs.Twins.second_events, proofs.Behind.{same_back, same_itself, same_on}}
use Rattle.room_http.specs.{Message.{Parsed, asked}, Stream.{Exchange, HasReply, event_at}}
use Rattle.room_http.specs.Stream.{events_at, events_by}
use Rattle.room_store.specs.{Crash.{HoldsRoom, IsRoomOf, Leaves}, Kept.Keeps, Leads.Leads}
use Rattle.store_runs.proofs.{Rights.of_all, Rooms.{keeps, numbered, sound, tidy}}
use Rattle.cli_listen.specs.Visits.{IsServedVisit, Visit, requests_of, unanswered_of, visit_events}
use Rattle.cli_serve.specs.Hosts.{LeavesRequests}
use Rattle.cli_runs.specs.Alike.{Answered, AreUnseen, Arrival, Arrive, AskAlike, AtBoth, AtFirst}
use Rattle.cli_runs.specs.Alike.{AtSecond, CrashesLeaveAlike, IsSameReply, RepliesAlike}
use Rattle.cli_runs.specs.Alike.{answered_in, at_first, at_second, front_then, turn_of_both}
use Rattle.cli_runs.{specs.Alike.{turns_of, visit_answered}, proofs.Agreed.{AgreeAll, IsAgreed}}
use Rattle.cli_runs.proofs.{Agreed.agreed, Runs.{all_before, all_both, first_run, tidy_then}}

-- ---- what was answered

abbrev IsAgreedAt : Answered → Type 0
IsAgreedAt x = IsAgreed x.1

abbrev pub event_of : Answered → List Event
event_of x = event_at x.0 x.1

visit_agrees : (moment : ℤ) (xs : List Exchange) → AllByRecursion IsAgreed xs
    → AllByRecursion IsAgreedAt (map (λ x. (moment, x)) xs)
visit_agrees moment [] all = tt
visit_agrees moment (x ∷ xs) all = (all.0, visit_agrees moment xs all.1)

all_agree : (visits : List Visit) → AgreeAll visits → AllByRecursion IsAgreedAt (answered_in visits)
all_agree [] all = tt
all_agree (v ∷ visits) all =
    all_both IsAgreedAt (visit_answered v) (answered_in visits)
    (visit_agrees v.moment v.exchanges all.0) (all_agree visits all.1)

visit_events_are : (moment : ℤ) (xs : List Exchange)
    → flat_map event_of (map (λ x. (moment, x)) xs) ≡ events_by moment xs
visit_events_are moment [] = refl
visit_events_are moment (x ∷ xs) =
    ap (λ (es : List Event). event_at moment x ++ es) (visit_events_are moment xs)

events_are : (visits : List Visit) → flat_map event_of (answered_in visits) ≡ requests_of visits
events_are [] = refl
events_are (v ∷ visits) =
    flat_map-append event_of (visit_answered v) (answered_in visits)
    ∙ ap (λ (es : List Event). es ++ flat_map event_of (answered_in visits))
    (visit_events_are v.moment v.exchanges)
    ∙ ap (λ (es : List Event). visit_events v ++ es) (events_are visits)

-- ---- what is asked of each

first_both : (moment later : ℤ) (p : Parsed) (x y : Option Reply) → HasReply p x → HasReply p y
    → (turns : List Turn) → first_events (turn_of_both moment later p x y ++ turns)
    ≡ events_at moment p x ++ first_events turns
first_both moment later (Ok call) (Some x) (Some y) one two turns = refl
first_both moment later (Ok call) (Some x) None one two turns = absurd two
first_both moment later (Ok call) None y one two turns = absurd one
first_both moment later (Err fault) x y one two turns = refl

second_both : (moment later : ℤ) (p : Parsed) (x y : Option Reply) → HasReply p x → HasReply p y
    → (turns : List Turn) → second_events (turn_of_both moment later p x y ++ turns)
    ≡ events_at later p y ++ second_events turns
second_both moment later (Ok call) (Some x) (Some y) one two turns = refl
second_both moment later (Ok call) (Some x) None one two turns = absurd two
second_both moment later (Ok call) None y one two turns = absurd one
second_both moment later (Err fault) x y one two turns = refl

module _ (turns : List Turn) where
  first_alone : (events : List Event)
      → first_events (map InFirst events ++ turns) ≡ events ++ first_events turns
  first_alone [] = refl
  first_alone (event ∷ events) = ap (λ (es : List Event). event ∷ es) (first_alone events)

  none_first : (events : List Event)
      → first_events (map InSecond events ++ turns) ≡ first_events turns
  none_first [] = refl
  none_first (event ∷ events) = none_first events

  second_alone : (events : List Event)
      → second_events (map InSecond events ++ turns) ≡ events ++ second_events turns
  second_alone [] = refl
  second_alone (event ∷ events) = ap (λ (es : List Event). event ∷ es) (second_alone events)

  none_second : (events : List Event)
      → second_events (map InFirst events ++ turns) ≡ second_events turns
  none_second [] = refl
  none_second (event ∷ events) = none_second events

abbrev Agree : List Arrival → Type 0
Agree arrivals =
    AllByRecursion IsAgreedAt (at_first arrivals) × AllByRecursion IsAgreedAt (at_second arrivals)

first_are : (arrivals : List Arrival) → Agree arrivals
    → first_events (turns_of arrivals) ≡ flat_map event_of (at_first arrivals)
first_are [] agree = refl
first_are (AtBoth moment later m x y ∷ arrivals) ((one, more), (two, others)) =
    first_both moment later (asked m) x y one two (turns_of arrivals)
    ∙ ap (λ (es : List Event). events_at moment (asked m) x ++ es)
    (first_are arrivals (more, others))
first_are (AtFirst x ∷ arrivals) ((one, more), others) =
    first_alone (turns_of arrivals) (event_of x)
    ∙ ap (λ (es : List Event). event_of x ++ es) (first_are arrivals (more, others))
first_are (AtSecond x ∷ arrivals) (more, (two, others)) =
    none_first (turns_of arrivals) (event_of x) ∙ first_are arrivals (more, others)

second_are : (arrivals : List Arrival) → Agree arrivals
    → second_events (turns_of arrivals) ≡ flat_map event_of (at_second arrivals)
second_are [] agree = refl
second_are (AtBoth moment later m x y ∷ arrivals) ((one, more), (two, others)) =
    second_both moment later (asked m) x y one two (turns_of arrivals)
    ∙ ap (λ (es : List Event). events_at later (asked m) y ++ es)
    (second_are arrivals (more, others))
second_are (AtFirst x ∷ arrivals) ((one, more), others) =
    none_second (turns_of arrivals) (event_of x) ∙ second_are arrivals (more, others)
second_are (AtSecond x ∷ arrivals) (more, (two, others)) =
    second_alone (turns_of arrivals) (event_of x)
    ∙ ap (λ (es : List Event). event_of x ++ es) (second_are arrivals (more, others))

-- ---- what each answers

both_told : (front : List (List ℕ)) (moment later : ℤ) (p : Parsed) (x y : Option Reply)
    → HasReply p x → HasReply p y → (turns : List Turn)
    → AnswersAlike front (turn_of_both moment later p x y ++ turns)
    → IsSameReply front p x y × AnswersAlike (front_then front p x) turns
both_told front moment later (Ok call) (Some x) (Some y) one two turns alike = alike
both_told front moment later (Ok call) (Some x) None one two turns alike = absurd two
both_told front moment later (Ok call) None y one two turns alike = absurd one
both_told front moment later (Err fault) None None one two turns alike = (refl, alike)
both_told front moment later (Err fault) (Some x) y one two turns alike = absurd one
both_told front moment later (Err fault) None (Some y) one two turns alike = absurd two

module _ (front : List (List ℕ)) (turns : List Turn) where
  first_told : (events : List Event) → AnswersAlike front (map InFirst events ++ turns)
      → AnswersAlike front turns
  first_told [] alike = alike
  first_told (event ∷ events) alike = first_told events alike

  second_told : (events : List Event) → AnswersAlike front (map InSecond events ++ turns)
      → AnswersAlike front turns
  second_told [] alike = alike
  second_told (event ∷ events) alike = second_told events alike

all_told : (front : List (List ℕ)) (arrivals : List Arrival) → Agree arrivals
    → AnswersAlike front (turns_of arrivals) → RepliesAlike front arrivals
all_told front [] agree alike = tt
all_told front (AtBoth moment later m x y ∷ arrivals) ((one, more), (two, others)) alike =
    let here = both_told front moment later (asked m) x y one two (turns_of arrivals) alike in
    (here.0, all_told (front_then front (asked m) x) arrivals (more, others) here.1)
all_told front (AtFirst x ∷ arrivals) ((one, more), others) alike =
    all_told front arrivals (more, others) (first_told front (turns_of arrivals) (event_of x) alike)
all_told front (AtSecond x ∷ arrivals) (more, (two, others)) alike =
    all_told front arrivals (more, others)
    (second_told front (turns_of arrivals) (event_of x) alike)

-- ---- what a crash leaves

-- the room that is left of one that all answered led to
abbrev IsLeft : List (List ℕ) → Content → Trees → Type 0
IsLeft front next db = (left : Content) × HoldsRoom left db × SameOutside front next left

one_left : StaysBehind → (front : List (List ℕ)) (asked_for : List Asking) (new : State)
    (next : Content) → IsNumbered next → AreUnseen front asked_for → Leaves asked_for new next
    → (db : Trees) → new.may_leave db → IsLeft front next db
one_left stays front asked_for new next numbers quiet (more, has, most) db left =
    elim (most db left) [
      | inl holds ↦ (next, holds, same_itself front next)
      | inr others ↦ after others.1 others.2 others.3
    ]
  where
    after : (asking : Asking) → more ≡ Some asking
        → (reply : Reply) × (then : Content) × Happens next (asking reply) then × HoldsRoom then db
        → IsLeft front next db
    after asking is (reply, then, happens, holds) =
        let unseen_one = of_all (λ a. (r : Reply) → HappensUnseen front (a r)) asked_for asking
        quiet
        (subst (λ (m : Option Asking). IfSome m (Has asked_for)) is has) in
        (then, holds, (stays front next (asking reply) then numbers (unseen_one reply) happens).0)

-- ---- up to any message

first_on : (xs ys : List Arrival) → at_first (xs ++ ys) ≡ at_first xs ++ at_first ys
first_on [] ys = refl
first_on (AtBoth moment later m x y ∷ xs) ys =
    ap (λ (l : List Answered). (moment, record { message = m; reply = x }) ∷ l) (first_on xs ys)
first_on (AtFirst x ∷ xs) ys = ap (λ (l : List Answered). x ∷ l) (first_on xs ys)
first_on (AtSecond x ∷ xs) ys = first_on xs ys

second_on : (xs ys : List Arrival) → at_second (xs ++ ys) ≡ at_second xs ++ at_second ys
second_on [] ys = refl
second_on (AtBoth moment later m x y ∷ xs) ys =
    ap (λ (l : List Answered). (later, record { message = m; reply = y }) ∷ l) (second_on xs ys)
second_on (AtFirst x ∷ xs) ys = second_on xs ys
second_on (AtSecond x ∷ xs) ys = ap (λ (l : List Answered). x ∷ l) (second_on xs ys)

-- of these connections, these messages came, and then those
module _ (visits : List Visit) (xs ys : List Answered) (are : xs ++ ys ≡ answered_in visits) where
  agreed_before : All IsServedVisit visits → AllByRecursion IsAgreedAt xs
  agreed_before each =
      all_before IsAgreedAt xs ys
      (subst (λ (l : List Answered). AllByRecursion IsAgreedAt l) (sym are)
      (all_agree visits (agreed visits each)))

  pub requests_are : requests_of visits ≡ flat_map event_of xs ++ flat_map event_of ys
  requests_are =
      sym (events_are visits) ∙ ap (flat_map event_of) (sym are) ∙ flat_map-append event_of xs ys

  pub run_before : (room next : Content) → Run room (requests_of visits) next
      → (mid : Content) × Run room (flat_map event_of xs) mid
  run_before room next run =
      first_run (flat_map event_of xs) (flat_map event_of ys) room next
      (subst (λ (es : List Event). Run room es next) requests_are run)

-- ---- the whole

module _ (contents : SoundIsContent) (tidies : ContentIsTidy) (stays : StaysTidy)
    (quiet : StaysBehind) (unseen : Unseen) (front : List (List ℕ))
    (old new other later : State) (visits others : List Visit)
    (leads : Leads old (requests_of visits) new)
    (beside : Leads other (requests_of others) later)
    (leaves : LeavesRequests old visits new) (left : LeavesRequests other others later)
    (each : All IsServedVisit visits) (every : All IsServedVisit others)
    (now : HasCleanDisk new) (then : HasCleanDisk later) (a b : Content)
    (one : IsRoomOf a old.now) (two : IsRoomOf b other.now) (same : SameOutside front a b)
    (arrivals rest : List Arrival) (arrive : Arrive visits others (arrivals ++ rest))
    (alike : AskAlike front a (turns_of arrivals)) where
  abbrev turns : List Turn
  turns = turns_of arrivals

  abbrev at_end : List (List ℕ)
  at_end = front_at_end front turns

  abbrev firsts : List Answered
  firsts = at_first arrivals

  abbrev seconds : List Answered
  seconds = at_second arrivals

  first_is : firsts ++ at_first rest ≡ answered_in visits
  first_is = sym (first_on arrivals rest) ∙ arrive.first

  second_is : seconds ++ at_second rest ≡ answered_in others
  second_is = sym (second_on arrivals rest) ∙ arrive.second

  agree : Agree arrivals
  agree = (
    agreed_before visits firsts (at_first rest) first_is each,
    agreed_before others seconds (at_second rest) second_is every,
  )

  pub answers : (c d : Content) → Run a (flat_map event_of firsts) c
      → Run b (flat_map event_of seconds) d → AnswersAlike front turns × SameOutside at_end c d
  answers c d run runs =
      let first_run = subst (λ (es : List Event). Run a es c) (sym (first_are arrivals agree)) run in
      unseen front turns a b c d same (tidy tidies contents a old.now one)
      (tidy tidies contents b other.now two) (numbered a old.now one) (numbered b other.now two)
      first_run
      (subst (λ (es : List Event). Run b es d) (sym (second_are arrivals agree)) runs)
      (alike c first_run)

  replies : RepliesAlike front arrivals
  replies =
      let it = leads.run now (sound a old one) a (keeps a old one) in
      let its = beside.run then (sound b other two) b (keeps b other two) in
      let run = run_before visits firsts (at_first rest) first_is a it.0 it.1 in
      let runs = run_before others seconds (at_second rest) second_is b its.0 its.1 in
      all_told front arrivals agree (answers run.0 runs.0 run.1 runs.1).0

  -- if these are all messages
  module _ (all : rest ≡ []) where
    first_all : requests_of visits ≡ flat_map event_of firsts
    first_all =
        requests_are visits firsts (at_first rest) first_is
        ∙ ap (λ (xs : List Arrival). flat_map event_of firsts ++ flat_map event_of (at_first xs)) all
        ∙ append-nil (flat_map event_of firsts)

    second_all : requests_of others ≡ flat_map event_of seconds
    second_all =
        requests_are others seconds (at_second rest) second_is
        ∙ ap (λ (xs : List Arrival). flat_map event_of seconds ++ flat_map event_of (at_second xs))
        all ∙ append-nil (flat_map event_of seconds)

    same_then : (c d : Content) → Run a (requests_of visits) c → Run b (requests_of others) d
        → SameOutside at_end c d
    same_then c d run runs =
        (answers c d (subst (λ (es : List Event). Run a es c) first_all run)
        (subst (λ (es : List Event). Run b es d) second_all runs)).1

    rooms_alike : (c d : Content) × Run a (requests_of visits) c × Run b (requests_of others) d
        × Keeps new c × Keeps later d × SameOutside at_end c d
    rooms_alike =
        let it = leads.run now (sound a old one) a (keeps a old one) in
        let its = beside.run then (sound b other two) b (keeps b other two) in
        (it.0, its.0, it.1, its.1, it.2, its.2, same_then it.0 its.0 it.1 its.1)

    crashes_alike : CrashesLeaveAlike at_end old visits new other others later
    crashes_alike is_open other_open none none_there db db' may may_there =
        let end = leaves now (sound a old one) is_open a (keeps a old one) in
        let ends = left then (sound b other two) other_open b (keeps b other two) in
        let first = one_left quiet at_end (unanswered_of visits) new end.0
        (tidy_then stays (requests_of visits) a end.0 (numbered a old.now one)
        (tidy tidies contents a old.now one) end.1).0 none end.2 db may in
        let last = one_left quiet at_end (unanswered_of others) later ends.0
        (tidy_then stays (requests_of others) b ends.0 (numbered b other.now two)
        (tidy tidies contents b other.now two) ends.1).0 none_there ends.2 db' may_there in (
          first.0,
          last.0,
          first.1,
          last.1,
          same_on at_end first.0 end.0 last.0 (same_back at_end end.0 first.0 first.2)
              (same_on at_end end.0 ends.0 last.0 (same_then end.0 ends.0 end.1 ends.1) last.2),
        )

  pub answer_alike : RepliesAlike front arrivals
      × (rest ≡ [] → ((c d : Content) × Run a (requests_of visits) c
      × Run b (requests_of others) d × Keeps new c × Keeps later d × SameOutside at_end c d)
      × CrashesLeaveAlike at_end old visits new other others later)
  answer_alike = (replies, λ all. (rooms_alike all, crashes_alike all))
