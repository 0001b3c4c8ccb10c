-- What the rows of an answer say of both rooms (own).
use Rattle.std.specs.Prelude.{◌≡◌, ℕ, ◌&&◌, false, true, List, [], ◌∷◌}
use Rattle.std.specs.List.{AllByRecursion as Each}
use Rattle.std.specs.Option.{option_map, option_map_or}
use Rattle.room_entry.specs.declared.parties.Caller.{Caller}
use Rattle.room_rows.specs.declared.node.Node.{Node}
use Rattle.room_rows.specs.Content.{with_each}
use Rattle.room_rows.specs.Keep.{with_content}
use Rattle.room_rows.specs.Meaning.{meaning}
use Rattle.room_rows.specs.Rows.{AreRows, Rows}
use Rattle.room_rows.specs.Sound.{AreSound}
use Rattle.room_change.specs.Changes.{Change, Turn, came_from, changed_by, grant_at}
use Rattle.room_change.specs.Changes.{same_turn, turn_at as turn_by}
use Rattle.room_machine.specs.Site.{front}
use Rattle.room_review.specs.Standing.{granted, repeats}
use Rattle.room_review.specs.Table.{Place, site_of}
use Rattle.room_turns.specs.declared.asked.Asked.{Asked}
use Rattle.room_turns.specs.Turns.{follows_clear, is_said, object_of, objects_from}
use Rattle.room_turns.specs.Turns.{owned_by, turn_at, view_of}

-- what a review of the room before says of the caller where the object of this number stood, and
-- one of the room after where it stands
abbrev pub reviewed : Rows → Rows → Caller → Place × Node → Turn
reviewed before after caller object = record {
  had = option_map_or (λ was. grant_at (meaning before.read) caller was.0.path)
      (object_of (objects_from before []) object.1.id) ([], false);
  has = grant_at (meaning after.read) caller object.0.path;
}

-- In sound rooms, where no object is one that each caller would have made itself, the rows of each
-- object say of each caller what reviews of both rooms say.
abbrev pub RowsAreTheReview : Type 0
RowsAreTheReview =
    (asked : Asked) (before after : Rows) → AreRows before → AreSound before → AreRows after
    → AreSound after → asked.own ≡ [] → (caller : Caller)
    → Each (λ object. turn_at (view_of asked before) caller object.0.above
    (site_of object.0 object.1) ≡ reviewed before after caller object)
    (objects_from after asked.path)

-- the rows of a state as the caller finds them
abbrev pub rows_for : List ℕ → Caller → Rows → Rows
rows_for own caller rows = with_content rows (with_each rows.read (owned_by own caller))

-- The same where there are such objects: of the rooms as the caller finds them.
abbrev pub OwnRowsAreTheReview : Type 0
OwnRowsAreTheReview =
    (asked : Asked) (before after : Rows) → AreRows before → AreSound before → AreRows after
    → AreSound after → (caller : Caller) →
    let was = rows_for asked.own caller before in
    let is = rows_for asked.own caller after in
    AreRows was → AreSound was → AreRows is → AreSound is →
    Each (λ object. turn_at (view_of asked before) caller object.0.above
    (site_of object.0 object.1)
    ≡ record {
      had = option_map_or (λ stood. grant_at (meaning was.read) caller stood.0.path)
          (object_of (objects_from before []) object.1.id) ([], false);
      has = grant_at (meaning is.read) caller object.0.path;
    }) (objects_from after asked.path)

-- The state after is that of changes, and the object of each number in the answer came from where
-- the object of that number stood.
pub record AreChanges (asked : Asked) (before after : Rows) (changes : List Change) : Type 0 where
  pub changed : meaning after.read ≡ changed_by (meaning before.read) changes
  pub came : Each (λ object. option_map (λ was. was.0.path)
      (object_of (objects_from before []) object.1.id) ≡ came_from changes object.0.path)
      (objects_from after asked.path)

-- Then the rows say what the changes make of each caller's rights.
abbrev pub RowsAreTheChange : Type 0
RowsAreTheChange =
    (asked : Asked) (before after : Rows) (changes : List Change) → AreRows before
    → AreSound before → AreRows after → AreSound after → asked.own ≡ []
    → AreChanges asked before after changes → (caller : Caller)
    → Each (λ object. turn_at (view_of asked before) caller object.0.above
    (site_of object.0 object.1)
    ≡ turn_by (meaning before.read) changes caller object.0.path)
    (objects_from after asked.path)

-- ---- rows that are left out

abbrev pub below_first : List (Place × Node) → List (Place × Node)
below_first [] = []
below_first (first ∷ objects) = objects

-- Below the first object, a row is left out exactly where it says what the caller's row at the
-- folder says, or both that nothing changes, and the folder is known.
abbrev pub RowsRepeat : Type 0
RowsRepeat =
    (asked : Asked) (before after : Rows) (changes : List Change) → AreRows before
    → AreSound before → AreRows after → AreSound after → asked.own ≡ [] → asked.looks ≡ false
    → AreChanges asked before after changes → (caller : Caller) →
    let view = view_of asked before in
    let turn = turn_by (meaning before.read) changes caller in
    Each (λ object. is_said view caller object.0.above (site_of object.0 object.1)
    ≡ (follows_clear view object.0.above
    && same_turn (turn object.0.path) (turn (front object.0.path))))
    (below_first (objects_from after asked.path))

-- ---- where nothing is changed

-- Where nothing is changed, the rows say what the rows of a review say of the room, and those are
-- left out that a review leaves out, where the folder is known.
abbrev pub LookIsTheReview : Type 0
LookIsTheReview =
    (asked : Asked) (before after : Rows) → AreRows after → AreSound after → asked.own ≡ []
    → asked.looks ≡ true → (caller : Caller) →
    let view = view_of asked before in
    Each (λ object.
    ((turn_at view caller object.0.above (site_of object.0 object.1)).has
    ≡ granted caller object.0.above (site_of object.0 object.1))
    × (is_said view caller object.0.above (site_of object.0 object.1)
    ≡ (follows_clear view object.0.above
    && repeats caller object.0.above (site_of object.0 object.1))))
    (objects_from after asked.path)
