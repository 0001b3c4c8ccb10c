-- Two servers on one room that get the same messages: the law of a barred folder, for one whose name
-- is longer than all that anybody asks for.
use Rattle.std.proofs.Common.{◌≡◌, ◌<◌, ◌+◌, ℕ, ℤ, suc, List, [], ◌∷◌, ◌++◌, length, map, Option}
use Rattle.std.proofs.Common.{None, Some, Ok, Err, Bool, true, false, if◌then◌else◌, inl, inr, refl}
use Rattle.std.proofs.Common.{sym, ap, subst, ◌∙◌, All, append_assoc, arith, replicate}
use Rattle.std.proofs.lemmas.List.{append-nil, length-replicate}
use Rattle.std.specs.{List.{AllByRecursion, flat_map}, Option.option_map_or}
use Rattle.sqlite.specs.State.{State, HasCleanDisk}
use Rattle.room_entry.{specs.Pieces.same_text, proofs.Texts.same_text-true}
use Rattle.room_rows.specs.Content.{Content}
use Rattle.room_inherit.specs.Laws.{SoundIsContent}
use Rattle.room_machine.specs.{Laws.first_path, Run.{Event, Run}, declared.reply.Reply.Reply}
use Rattle.room_machine.specs.declared.request.Request.{Request, TheVariants.Move}
use Rattle.room_laws.specs.Laws.{StaysBehind, front_after, front_done, is_done, rest_after}
use Rattle.room_laws.specs.Outside.{IsBehind, Reaches, SameOutside, last_path, listing, view}
use Rattle.room_laws.specs.{Tidy.{ContentIsTidy, StaysTidy}, Twins.{AreAlike, Turn, Unseen}}
use Rattle.room_laws.specs.Twins.{first_events, front_at_end}
use Rattle.room_laws.proofs.{Behind.same_itself, Gained.one_of}
use Rattle.room_http.specs.Message.{Parsed, asked}
use Rattle.room_store.specs.{Crash.IsRoomOf, Kept.Keeps, Leads.Leads}
use Rattle.store_runs.proofs.Rooms.{keeps, sound}
use Rattle.cli_listen.specs.Visits.{IsServedVisit, Visit, requests_of}
use Rattle.cli_serve.specs.Hosts.{LeavesRequests}
use Rattle.cli_runs.proofs.Alike.{answer_alike, answers, event_of, requests_are, run_before}
use Rattle.cli_runs.specs.Alike.{Answered, AreSame, Arrival, Arrive, AtBoth, AtFirst, AtSecond, Both}
use Rattle.cli_runs.specs.Alike.{IsSameReply, RepliesAlike, answered_in, at_first, at_second}
use Rattle.cli_runs.specs.Alike.{events_of, front_then, in_first, in_second, turn_of_both, turns_of}

abbrev arrivals : List Both → List Arrival
arrivals [] = []
arrivals (x ∷ same) = AtBoth x.moment x.later x.message x.first x.second ∷ arrivals same

-- ---- a name that is longer than all others

module _ (long : List ℕ) where
  abbrev IsShort : List ℕ → Type 0
  IsShort name = length name < length long

  abbrev AreShort : List (List ℕ) → Type 0
  AreShort path = AllByRecursion IsShort path

  abbrev AsksShort : Parsed → Type 0
  AsksShort (Ok call) = AreShort (first_path call.1) × AreShort (last_path call.1)
  AsksShort (Err fault) = Unit {0}

  abbrev AllShort : List Both → Type 0
  AllShort same = AllByRecursion (λ x. AsksShort (asked x.message)) same

  -- the path ends in it
  abbrev IsLong : List (List ℕ) → Type 0
  IsLong front = (before : List (List ℕ)) × (front ≡ before ++ long ∷ [])

  never : (path before later : List (List ℕ)) → AreShort path → path ≡ before ++ long ∷ later → ⊥
  never path before later short is =
      let it : IsShort long = one_of IsShort before later long (subst AreShort is short) in
      omega (arith, it)

  not_behind : (front path : List (List ℕ)) → IsLong front → AreShort path → IsBehind front path
      → ⊥
  not_behind front path (before, ends) short (name, names, is) =
      never path before (name ∷ names) short
      (is ∙ ap (λ (f : List (List ℕ)). f ++ name ∷ names) ends
      ∙ append_assoc before (long ∷ []) (name ∷ names))

  not_reached : (front : List (List ℕ)) (request : Request) → IsLong front
      → AreShort (first_path request) → AreShort (last_path request) → Reaches front request → ⊥
  not_reached front request ends first last (inl is) =
      not_behind front (first_path request) ends first is
  not_reached front request ends first last (inr is) =
      not_behind front (last_path request) ends last is

  not_the_front : (front path : List (List ℕ)) → IsLong front → AreShort path → path ≡ front → ⊥
  not_the_front front path (before, ends) short is = never path before [] short (is ∙ ends)

  -- ---- a move takes it along

  rest_is_long : (path before rest : List (List ℕ)) → AreShort path
      → rest_after path (before ++ long ∷ []) ≡ Some rest → IsLong rest
  rest_is_long [] before rest short is =
      let same : before ++ long ∷ [] ≡ rest = cc in (before, sym same)
  rest_is_long (name ∷ path) [] rest short is = on (same_text name long) refl is
    where
      on : (b : Bool) → same_text name long ≡ b
          → (if b then rest_after path [] else None) ≡ Some rest → IsLong rest
      on true same found =
          absurd (never (name ∷ path) [] path short
          (ap (λ (n : List ℕ). n ∷ path) (same_text-true name long same)))
      on false same found = absurd (let wrong : ⊥ = cc in wrong)
  rest_is_long (name ∷ path) (other ∷ before) rest short is =
      on (same_text name other) (rest_is_long path before rest short.1) is
    where
      on : (b : Bool)
          → (rest_after path (before ++ long ∷ []) ≡ Some rest → IsLong rest)
          → (if b then rest_after path (before ++ long ∷ []) else None) ≡ Some rest → IsLong rest
      on true later found = later found
      on false later found = absurd (let wrong : ⊥ = cc in wrong)

  moved_is_long : (front path to : List (List ℕ)) → IsLong front → AreShort path
      → IsLong (option_map_or (λ names. to ++ names) (rest_after path front) front)
  moved_is_long front path to (before, ends) short = on (rest_after path front) refl
    where
      on : (o : Option (List (List ℕ))) → rest_after path front ≡ o
          → IsLong (option_map_or (λ names. to ++ names) o front)
      on None is = (before, ends)
      on (Some rest) is =
          let it = rest_is_long path before rest short
          (subst (λ (f : List (List ℕ)). rest_after path f ≡ Some rest) ends is) in (
            to ++ it.0,
            ap (λ (names : List (List ℕ)). to ++ names) it.1
                ∙ sym (append_assoc to it.0 (long ∷ [])),
          )

  done_is_long : (front : List (List ℕ)) (request : Request) → IsLong front
      → AreShort (first_path request) → IsLong (front_done front request)
  done_is_long front (Move path to) ends short = moved_is_long front path to ends short
  done_is_long front _ ends short = ends

  after_is_long : (front : List (List ℕ)) (request : Request) (reply : Reply) → IsLong front
      → AreShort (first_path request) → IsLong (front_after front request reply)
  after_is_long front request reply ends short = on (is_done reply)
    where
      on : (b : Bool) → IsLong (if b then front_done front request else front)
      on true = done_is_long front request ends short
      on false = ends

  then_is_long : (front : List (List ℕ)) (p : Parsed) (x : Option Reply) → IsLong front
      → AsksShort p → IsLong (front_then front p x)
  then_is_long front (Ok call) (Some reply) ends short =
      after_is_long front call.1 reply ends short.0
  then_is_long front (Ok call) None ends short = ends
  then_is_long front (Err fault) x ends short = ends

  -- ---- nobody asks for what is behind it

  abbrev AllAlike : List Turn → Type 0
  AllAlike turns = (front : List (List ℕ)) → IsLong front → (room next : Content)
      (run : Run room (first_events turns) next) → AreAlike front turns room next run

  one_alike : (moment later : ℤ) (p : Parsed) (x y : Option Reply) → AsksShort p
      → (turns : List Turn) → AllAlike turns → AllAlike (turn_of_both moment later p x y ++ turns)
  one_alike moment later (Err fault) x y short turns all front ends room next run =
      all front ends room next run
  one_alike moment later (Ok call) None y short turns all front ends room next run =
      all front ends room next run
  one_alike moment later (Ok call) (Some x) None short turns all front ends room next run =
      all front ends room next run
  one_alike moment later (Ok call) (Some x) (Some y) short turns all front ends room next
      (mid, happens, run) = (
        (
          (λ is. absurd (not_the_front front (first_path call.1) ends short.0 (ap first_path is))),
          (λ reaches. absurd (not_reached front call.1 ends short.0 short.1 reaches)),
        ),
        all (front_after front call.1 x) (after_is_long front call.1 x ends short.0) mid next run,
      )

  all_alike : (same : List Both) → AllShort same → AllAlike (turns_of (arrivals same))
  all_alike [] short front ends room next run = tt
  all_alike (x ∷ same) short front ends room next run =
      one_alike x.moment x.later (asked x.message) x.first x.second short.0
      (turns_of (arrivals same)) (all_alike same short.1) front ends room next run

  one_end : (front : List (List ℕ)) (moment later : ℤ) (p : Parsed) (x y : Option Reply)
      → AsksShort p → IsLong front → (turns : List Turn)
      → ((f : List (List ℕ)) → IsLong f → IsLong (front_at_end f turns))
      → IsLong (front_at_end front (turn_of_both moment later p x y ++ turns))
  one_end front moment later (Err fault) x y short ends turns others = others front ends
  one_end front moment later (Ok call) None y short ends turns others = others front ends
  one_end front moment later (Ok call) (Some x) None short ends turns others = others front ends
  one_end front moment later (Ok call) (Some x) (Some y) short ends turns others =
      others (front_after front call.1 x) (after_is_long front call.1 x ends short.0)

  end_is_long : (same : List Both) → AllShort same → (front : List (List ℕ)) → IsLong front
      → IsLong (front_at_end front (turns_of (arrivals same)))
  end_is_long [] short front ends = ends
  end_is_long (x ∷ same) short front ends =
      one_end front x.moment x.later (asked x.message) x.first x.second short.0 ends
      (turns_of (arrivals same)) (end_is_long same short.1)

  one_same : (front : List (List ℕ)) (p : Parsed) (x y : Option Reply) → IsLong front
      → AsksShort p → IsSameReply front p x y → x ≡ y
  one_same front (Ok call) (Some x) (Some y) ends short (inl same) = ap Some same
  one_same front (Ok call) (Some x) (Some y) ends short (inr names) =
      absurd (not_the_front front (first_path call.1) ends short.0 (ap first_path names.0))
  one_same front (Ok call) (Some x) None ends short same = same
  one_same front (Ok call) None y ends short same = same
  one_same front (Err fault) x y ends short same = same

  all_same : (same : List Both) → AllShort same → (front : List (List ℕ)) → IsLong front
      → RepliesAlike front (arrivals same) → AllByRecursion (λ x. x.first ≡ x.second) same
  all_same [] short front ends alike = tt
  all_same (x ∷ same) short front ends alike = (
    one_same front (asked x.message) x.first x.second ends short.0 alike.0,
    all_same same short.1 (front_then front (asked x.message) x.first)
        (then_is_long front (asked x.message) x.first ends short.0) alike.1,
  )

-- ---- there is one

abbrev total : List (List ℕ) → ℕ
total [] = 0
total (name ∷ path) = length name + total path

abbrev asked_total : Parsed → ℕ
asked_total (Ok call) = total (first_path call.1) + total (last_path call.1)
asked_total (Err fault) = 0

abbrev all_total : List Both → ℕ
all_total [] = 0
all_total (x ∷ same) = asked_total (asked x.message) + all_total same

module _ (long : List ℕ) where
  path_short : (path : List (List ℕ)) → total path < length long → AreShort long path
  path_short [] less = tt
  path_short (name ∷ path) less = (
    omega (arith, less),
    path_short path (omega (arith, less)),
  )

  asked_short : (p : Parsed) → asked_total p < length long → AsksShort long p
  asked_short (Ok call) less = (
    path_short (first_path call.1) (omega (arith, less)),
    path_short (last_path call.1) (omega (arith, less)),
  )
  asked_short (Err fault) less = tt

  all_short : (same : List Both) → all_total same < length long → AllShort long same
  all_short [] less = tt
  all_short (x ∷ same) less = (
    asked_short (asked x.message) (omega (arith, less)),
    all_short same (omega (arith, less)),
  )

-- ---- the messages of both servers

first_then : (same : List Both) (rest : List Arrival)
    → at_first (arrivals same ++ rest) ≡ map in_first same ++ at_first rest
first_then [] rest = refl
first_then (x ∷ same) rest = ap (λ (l : List Answered). in_first x ∷ l) (first_then same rest)

second_then : (same : List Both) (rest : List Arrival)
    → at_second (arrivals same ++ rest) ≡ map in_second same ++ at_second rest
second_then [] rest = refl
second_then (x ∷ same) rest = ap (λ (l : List Answered). in_second x ∷ l) (second_then same rest)

none_first : (more : List Answered) → at_first (map AtSecond more) ≡ []
none_first [] = refl
none_first (x ∷ more) = none_first more

first_rest : (rest more : List Answered)
    → at_first (map AtFirst rest ++ map AtSecond more) ≡ rest
first_rest [] more = none_first more
first_rest (x ∷ rest) more = ap (λ (l : List Answered). x ∷ l) (first_rest rest more)

second_all : (more : List Answered) → at_second (map AtSecond more) ≡ more
second_all [] = refl
second_all (x ∷ more) = ap (λ (l : List Answered). x ∷ l) (second_all more)

second_rest : (rest more : List Answered)
    → at_second (map AtFirst rest ++ map AtSecond more) ≡ more
second_rest [] more = second_all more
second_rest (x ∷ rest) more = second_rest rest more

only_first : (same : List Both) → at_first (arrivals same) ≡ map in_first same
only_first [] = refl
only_first (x ∷ same) = ap (λ (l : List Answered). in_first x ∷ l) (only_first same)

only_second : (same : List Both) → at_second (arrivals same) ≡ map in_second same
only_second [] = refl
only_second (x ∷ same) = ap (λ (l : List Answered). in_second x ∷ l) (only_second same)

-- the room after the first messages, which is kept where there were no others
begun : (visits : List Visit) (xs ys : List Answered) → xs ++ ys ≡ answered_in visits → (s : State)
    (room next : Content) → Run room (requests_of visits) next → Keeps s next
    → (mid : Content) × Run room (events_of xs) mid × (ys ≡ [] → Keeps s mid)
begun visits xs [] are s room next run keeps =
    let same : requests_of visits ≡ flat_map event_of xs =
    requests_are visits xs [] are ∙ append-nil (flat_map event_of xs) in
    (next, subst (λ (es : List Event). Run room es next) same run, λ none. keeps)
begun visits xs (y ∷ ys) are s room next run keeps =
    let it = run_before visits xs (y ∷ ys) are room next run in
    (it.0, it.1, λ none. let wrong : ⊥ = cc in absurd wrong)

module _ (contents : SoundIsContent) (tidies : ContentIsTidy) (stays : StaysTidy)
    (quiet : StaysBehind) (unseen : Unseen) (old new other later : State)
    (visits others : List Visit) (leads : Leads old (requests_of visits) new)
    (beside : Leads other (requests_of others) later) (leaves : LeavesRequests old visits new)
    (left : LeavesRequests other others later) (each : All IsServedVisit visits)
    (every : All IsServedVisit others) (now : HasCleanDisk new) (clear : HasCleanDisk later)
    (room : Content) (one : IsRoomOf room old.now) (two : IsRoomOf room other.now)
    (same : List Both) (rest more : List Answered)
    (first : map in_first same ++ rest ≡ answered_in visits)
    (second : map in_second same ++ more ≡ answered_in others) where
  abbrev whole : List Arrival
  whole = map AtFirst rest ++ map AtSecond more

  arrive : Arrive visits others (arrivals same ++ whole)
  arrive = record {
    first =
        first_then same whole
        ∙ ap (λ (l : List Answered). map in_first same ++ l) (first_rest rest more) ∙ first;
    second =
        second_then same whole
        ∙ ap (λ (l : List Answered). map in_second same ++ l) (second_rest rest more) ∙ second;
  }

  replies : AllByRecursion (λ x. x.first ≡ x.second) same
  replies =
      let long = replicate (suc (all_total same)) 0 in
      let size : length long ≡ suc (all_total same) =
      length-replicate (suc (all_total same)) 0 in
      let short = all_short long same (omega (arith, size)) in
      all_same long same short (long ∷ []) ([], refl)
      (answer_alike contents tidies stays quiet unseen (long ∷ []) old new other later visits others
      leads beside leaves left each every now clear room room one two
      (same_itself (long ∷ []) room) (arrivals same) whole arrive
      (λ next run. all_alike long same short (long ∷ []) ([], refl) room next run)).0

  -- ---- the rooms

  module _ (c d : Content) (run : Run room (events_of (map in_first same)) c)
      (runs : Run room (events_of (map in_second same)) d) where
    -- outside of a name that is longer than those of the path too
    record SameAt (path : List (List ℕ)) : Type 0 where
      members : c.members ≡ d.members
      views : view c path ≡ view d path
      names : listing c path ≡ listing d path

    same_at : (path : List (List ℕ)) → SameAt path
    same_at path =
        let n = suc (all_total same + total path) in
        let long = replicate n 0 in
        let size : length long ≡ n = length-replicate n 0 in
        let short = all_short long same (omega (arith, size)) in
        let short_path = path_short long path (omega (arith, size)) in
        let front = front_at_end (long ∷ []) (turns_of (arrivals same)) in
        let is_long = end_is_long long same short (long ∷ []) ([], refl) in
        let alike : SameOutside front c d =
        (answers contents tidies stays quiet unseen (long ∷ []) old new other later visits others
        leads beside leaves left each every now clear room room one two
        (same_itself (long ∷ []) room) (arrivals same) whole arrive
        (λ next run. all_alike long same short (long ∷ []) ([], refl) room next run) c d
        (subst (λ (l : List Answered). Run room (events_of l) c) (sym (only_first same)) run)
        (subst (λ (l : List Answered). Run room (events_of l) d) (sym (only_second same)) runs)).1 in
        let outside = not_behind long front path is_long short_path in
        record {
          members = alike.members;
          views = alike.views path outside;
          names = alike.names path outside (not_the_front long front path is_long short_path);
        }

    are_same : AreSame c d
    are_same =
        record {
          members = (same_at []).members;
          views = λ path. (same_at path).views;
          names = λ path. (same_at path).names;
        }

  pub answer_the_same : AllByRecursion (λ x. x.first ≡ x.second) same
      × ((mid end : Content) × Run room (events_of (map in_first same)) mid
      × Run room (events_of (map in_second same)) end × AreSame mid end
      × (rest ≡ [] → Keeps new mid) × (more ≡ [] → Keeps later end))
  answer_the_same =
      let seen = leads.run now (sound room old one) room (keeps room old one) in
      let its = beside.run clear (sound room other two) room (keeps room other two) in
      let it = begun visits (map in_first same) rest first new room seen.0 seen.1 seen.2 in
      let end = begun others (map in_second same) more second later room its.0 its.1 its.2 in
      (replies, (it.0, end.0, it.1, end.1, are_same it.0 end.0 it.1 end.1, it.2, end.2))
