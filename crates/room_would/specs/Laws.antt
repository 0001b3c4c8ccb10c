-- What the rows of an answer say of the room (own).
use Rattle.std.specs.Prelude.{◌≡◌, ℕ, false, List, [], ◌++◌, map}
use Rattle.room_entry.specs.Pieces.{same_text}
use Rattle.std.specs.List.{AllByRecursion as Each, AllZip}
use Rattle.std.specs.Option.{option_map, option_map_or}
use Rattle.room_entry.specs.declared.parties.Caller.{Caller}
use Rattle.room_rows.specs.Content.{Content, with_each}
use Rattle.room_rows.specs.Meaning.{meaning}
use Rattle.room_rows.specs.Rows.{Rows}
use Rattle.room_memory.specs.Memory.{rows_in}
use Rattle.room_change.specs.Changes.{Change as Made, Turn, came_from, changed_by, grant_at}
use Rattle.room_piece.specs.Laws.{IsAskedFor, bare}
use Rattle.room_review.specs.{Laws.IsUnknownIn, Users.{AreUsers, is_listed}}
use Rattle.room_review.specs.Table.{everybody, site_of}
use Rattle.room_turns.specs.declared.asked.Asked.{Asked}
use Rattle.room_turns.specs.Turns.{object_of, objects_from, owned_by, turn_at, view_of}
use Rattle.room_would.specs.{Names.users_named, Parties.supposed_party, Would.IsAnswer}

-- the room that a piece's rows mean, without the bytes of its documents, which grant nothing
abbrev pub room_in : Rows → Content
room_in rows = bare (meaning rows.read)

-- ---- where objects came from

-- The object of each number in the answer stood, before the changes, where they say that it came
-- from, or nowhere.
abbrev pub CameFrom : Asked → Rows → Rows → List Made → Type 0
CameFrom asked before after changes =
    Each (λ object. option_map (λ was. was.0.path) (object_of (objects_from before []) object.1.id)
    ≡ came_from changes object.0.path) (objects_from after asked.path)

-- ---- what callers may do

-- the room as a caller finds it, who owns the objects of these numbers
abbrev pub as_found : List ℕ → Caller → Content → Content
as_found own caller room = with_each room (owned_by own caller)

-- What a review of the room says of the caller where the object at a path came from, and what one
-- of the changed room says at the path. Objects of these numbers are the caller's own in both.
abbrev pub turned : List ℕ → Content → List Made → Caller → List (List ℕ) → Turn
turned own room changes caller path = record {
  had = option_map_or (grant_at (as_found own caller room) caller) (came_from changes path)
      ([], false);
  has = grant_at (as_found own caller (changed_by room changes)) caller path;
}

-- the rows of each object say so of each caller
abbrev pub SayTurned : Asked → Rows → Rows → List Made → Type 0
SayTurned asked before after changes =
    (caller : Caller)
    → Each (λ object. turn_at (view_of asked before) caller object.0.above
    (site_of object.0 object.1) ≡ turned asked.own (room_in before) changes caller object.0.path)
    (objects_from after asked.path)

-- The rows of each object of an answer say of each caller what reviews say of the room, where the
-- object came from, and of what the changes make of it that the question asks for.
abbrev pub WouldIsTheReview : Type 0
WouldIsTheReview =
    (bytes text : List ℕ) (answer : IsAnswer bytes text) →
    let told = answer.2 in
    let asked = told.told.says.says.asked in
    let before = rows_in told.before.keep in
    let after = rows_in told.told.after.keep in
    (changes : List Made) × AllZip (IsAskedFor told.unread) answer.0.changes changes
    × CameFrom asked before after changes × SayTurned asked before after changes

-- ---- whom it asks for

-- The callers of an answer begin with the users whom the question names, each as the room has it.
-- Whoever isn't one of these is in no pair of the room, nor of the changed one, owns nothing and
-- stands in no dacl of them. Only the name that stands for what isn't known may own something.
abbrev pub NobodyIsMissed : Type 0
NobodyIsMissed =
    (bytes text : List ℕ) (answer : IsAnswer bytes text) →
    let told = answer.2 in
    let before = rows_in told.before.keep in
    (users : List (List ℕ)) × AreUsers (users_named answer.0) users × ((stranger : List ℕ)
    × (told.told.says.says.asked.parties.items
    ≡ everybody before.read users stranger ++ map (supposed_party stranger) answer.0.supposed))
    × ((name : List ℕ) → is_listed name users ≡ false → same_text told.unread name ≡ false
    → IsUnknownIn (meaning before.read) name
    × IsUnknownIn (meaning (rows_in told.told.after.keep).read) name)
