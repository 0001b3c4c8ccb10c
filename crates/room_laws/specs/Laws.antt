-- Laws of one step: what is behind a folder doesn't show in replies, nor in what they change.
use Rattle.std.specs.List.{AllByRecursion}
use Rattle.std.specs.Option.{option_map_or, option_map}
use Rattle.std.specs.Prelude.{if◌then◌else◌, Bool, true, false, ◌++◌, ◌∷◌, [], Some, None, ◌≡◌, ℕ}
use Rattle.std.specs.Prelude.{ℤ, ◌⊎◌, List, Option}
use Rattle.room_entry.specs.Ace.{Ace}
use Rattle.room_entry.specs.Pieces.{same_text}
use Rattle.room_entry.specs.declared.object.ObjKind.{ObjKind}
use Rattle.room_entry.specs.declared.object.Which.TheVariants.{Dacl, Sacl}
use Rattle.room_rows.specs.Content.{Content}
use Rattle.room_machine.specs.Closed.{only_reads}
use Rattle.room_machine.specs.Laws.{first_path}
use Rattle.room_machine.specs.Run.{Event, Asked, WasReset, Replaced, Happens, Run}
use Rattle.room_machine.specs.Site.{sites_along, site_at, full_at}
use Rattle.room_machine.specs.Step.{Step}
use Rattle.room_machine.specs.declared.reply.Reason.TheVariants.{NotEmpty}
use Rattle.room_machine.specs.declared.reply.Reply.{Reply}
use Rattle.room_machine.specs.declared.reply.Reply.TheVariants.{Names, Made, Done, Refused}
use Rattle.room_machine.specs.declared.request.Request.{Request}
use Rattle.room_machine.specs.declared.request.Request.TheVariants.{List as ListFolder, Remove}
use Rattle.room_machine.specs.declared.request.Request.TheVariants.{Move}
use Rattle.room_laws.specs.Outside.{Barred, IsBehind, Reaches, SameOutside, last_path}
use Rattle.room_laws.specs.Tidy.{IsNumbered, IsTidy}

-- Two replies that may differ in names: those in the front, for who may list it.
abbrev pub TellsNames : List (List ℕ) → Request → Reply → Reply → Type 0
TellsNames front request first second = (request ≡ ListFolder front)
    × ((a b : List (List ℕ × ObjKind)) × (first ≡ Names a) × (second ≡ Names b))

-- Two replies that may differ in whether the front could be removed, for who may remove it.
abbrev pub TellsEmpty : List (List ℕ) → Request → Reply → Reply → Type 0
TellsEmpty front request first second = (request ≡ Remove front)
    × ((first ≡ Done) ⊎ (first ≡ Refused front NotEmpty))
    × ((second ≡ Done) ⊎ (second ≡ Refused front NotEmpty))

abbrev pub IsTold : List (List ℕ) → Request → Reply → Reply → Type 0
IsTold front request first second =
    TellsNames front request first second ⊎ TellsEmpty front request first second

-- Nothing else tells: the replies are the same, or these.
abbrev pub NothingElseTells : Type 0
NothingElseTells =
    (front : List (List ℕ)) (a b : Content) (user : Option (List ℕ)) (moment later : ℤ)
    (request : Request) (first second : Reply) (after other : Content) →
    SameOutside front a b → IsNumbered a → IsNumbered b →
    (Reaches front request → Barred a user front) →
    Step a user moment request first after →
    Step b user later request second other →
    (first ≡ second) ⊎ IsTold front request first second

-- What is behind doesn't show in replies: not to a caller who is barred, and in a request that
-- doesn't go there to nobody, whatever the moments and the numbers are. Two requests can tell, both
-- of the front: whether it has children, and their names.
abbrev pub SameReplies : Type 0
SameReplies =
    (front : List (List ℕ)) (a b : Content) (user : Option (List ℕ)) (moment later : ℤ)
    (request : Request) (first second : Reply) (after other : Content) →
    SameOutside front a b → IsNumbered a → IsNumbered b →
    (Reaches front request → Barred a user front) →
    (request ≡ ListFolder front → ⊥) →
    (request ≡ Remove front → ⊥) →
    Step a user moment request first after →
    Step b user later request second other → first ≡ second

-- What happens is behind: each path of it is.
abbrev pub HappensBehind : List (List ℕ) → Event → Type 0
HappensBehind front (Asked user moment request reply) = IsBehind front (first_path request)
    × IsBehind front (last_path request)
HappensBehind front (WasReset path which sent reply) = IsBehind front path
HappensBehind front (Replaced pairs) = ⊥

-- the replies to what was changed
abbrev pub tells_change : Reply → Bool
tells_change Made = true
tells_change Done = true
tells_change reply = false

-- A request that only reads, or whose reply isn't that of a change: it adds records at most.
abbrev pub ChangesNothing : Event → Type 0
ChangesNothing (Asked user moment request reply) =
    (only_reads request ≡ true) ⊎ (tells_change reply ≡ false)
ChangesNothing event = ⊥

-- What happens doesn't show outside: each path of it is behind, or it changes nothing.
abbrev pub HappensUnseen : List (List ℕ) → Event → Type 0
HappensUnseen front event = HappensBehind front event ⊎ ChangesNothing event

-- What happens behind changes nothing outside, whoever does it, nor does what changes nothing.
abbrev pub StaysBehind : Type 0
StaysBehind = (front : List (List ℕ)) (before : Content) (event : Event) (after : Content) →
    IsNumbered before → HappensUnseen front event → Happens before event after →
    SameOutside front before after × IsNumbered after

-- all of these happen behind
abbrev pub AllBehind : List (List ℕ) → List Event → Type 0
AllBehind front events = AllByRecursion (HappensBehind front) events

-- What happened behind doesn't show. From one content two runs of whatever requests behind, of
-- whatever callers and however many, lead to contents in which a request gets one reply, if its
-- caller is barred or if it doesn't go there.
abbrev pub UnseenBehind : Type 0
UnseenBehind =
    (front : List (List ℕ)) (start a b : Content) (events others : List Event)
    (user : Option (List ℕ)) (moment later : ℤ) (request : Request) (first second : Reply)
    (after other : Content) →
    IsNumbered start → AllBehind front events → AllBehind front others →
    Run start events a → Run start others b →
    (Reaches front request → Barred start user front) →
    (request ≡ ListFolder front → ⊥) →
    (request ≡ Remove front → ⊥) →
    Step a user moment request first after →
    Step b user later request second other → first ≡ second

-- the names that a path has after those of another one, if it begins with them
abbrev pub rest_after : List (List ℕ) → List (List ℕ) → Option (List (List ℕ))
rest_after [] path = Some path
rest_after (name ∷ names) [] = None
rest_after (name ∷ names) (other ∷ path) =
    if same_text name other then rest_after names path else None

-- where the front is once a request is done: a move of it, or of a folder above it, takes it along
abbrev pub front_done : List (List ℕ) → Request → List (List ℕ)
front_done front (Move path to) =
    option_map_or (λ names. to ++ names) (rest_after path front) front
front_done front request = front

abbrev pub is_done : Reply → Bool
is_done Done = true
is_done reply = false

-- where it is after a request with this reply
abbrev pub front_after : List (List ℕ) → Request → Reply → List (List ℕ)
front_after front request reply = if is_done reply then front_done front request else front

-- One step: what is the same outside stays the same by a request that doesn't reach behind, whoever
-- asks, or whose caller is barred; outside of where the front is then. A removal of the front
-- succeeds in both or in neither.
abbrev pub StaysAlike : Type 0
StaysAlike =
    (front : List (List ℕ)) (a b : Content) (user : Option (List ℕ)) (moment later : ℤ)
    (request : Request) (first second : Reply) (after other : Content) →
    SameOutside front a b → IsTidy a → IsTidy b → IsNumbered a → IsNumbered b →
    (request ≡ Remove front → first ≡ second) →
    (Reaches front request → Barred a user front) →
    Step a user moment request first after →
    Step b user later request second other →
    SameOutside (front_after front request first) after other

-- the full lists at a path, as they are computed from the root
abbrev pub full_lists : Content → List (List ℕ) → Option (List Ace × List Ace)
full_lists content path = option_map (λ site. (full_at Dacl site, full_at Sacl site))
    (site_at (sites_along content path) path)

-- What is the same outside has the same full lists there.
abbrev pub SameFullLists : Type 0
SameFullLists = (front : List (List ℕ)) (a b : Content) → SameOutside front a b
    → (path : List (List ℕ)) → (IsBehind front path → ⊥) → full_lists a path ≡ full_lists b path
