-- What a change makes of a room, and what a caller may do there (own).
use Rattle.std.specs.Prelude.{ℕ, ◌&&◌, ◌||◌, Bool, true, false, not, List, [], ◌∷◌, ◌++◌, length}
use Rattle.std.specs.Prelude.{take, Option, Some, None, if◌then◌else◌}
use Rattle.std.specs.Option.{option_map_or}
use Rattle.room_entry.specs.Pieces.{same_text}
use Rattle.room_entry.specs.declared.object.Which.TheVariants.{Dacl}
use Rattle.room_entry.specs.declared.parties.Caller.{Caller}
use Rattle.room_ace.specs.Sent.{Sent}
use Rattle.room_rows.specs.declared.node.Node.{Node}
use Rattle.room_rows.specs.Content.{Content, with_node}
use Rattle.room_machine.specs.declared.request.Request.{Request}
use Rattle.room_machine.specs.declared.request.Request.TheVariants.{Move, SetList}
use Rattle.room_machine.specs.Effect.{effect}
use Rattle.room_machine.specs.Rights.{may_remove, rights}
use Rattle.room_machine.specs.Site.{Site, site_at, sites_along}

-- ---- changes

-- A dacl is set; an object is moved to another path, with all below it; or one comes to a path.
pub data Change : Type 0 where
  Sets : List (List ℕ) → Sent → Change
  Moves : List (List ℕ) → List (List ℕ) → Change
  Comes : List (List ℕ) → Node → Change

-- what is set or moved doesn't depend on who asks
abbrev pub nobody : Caller
nobody = record { user = None; groups = [] }

-- The room after a change: the effect of its request, without the checks of its plan.
abbrev pub changed : Content → Change → Content
changed room (Sets path sent) = (effect room nobody 0 (SetList path Dacl sent)).1
changed room (Moves path to) = (effect room nobody 0 (Move path to)).1
changed room (Comes path node) = with_node room node

-- the room after changes in turn
abbrev pub changed_by : Content → List Change → Content
changed_by room [] = room
changed_by room (change ∷ changes) = changed_by (changed room change) changes

-- the change that a request asks for, if it sets a dacl or moves
abbrev pub change_of : Request → Option Change
change_of (SetList path Dacl sent) = Some (Sets path sent)
change_of (Move path to) = Some (Moves path to)
change_of _ = None

-- ---- where objects stood

-- the names of a path behind those of another one that it begins with
abbrev pub rest_behind : List (List ℕ) → List (List ℕ) → Option (List (List ℕ))
rest_behind [] path = Some path
rest_behind (name ∷ names) [] = None
rest_behind (name ∷ names) (other ∷ others) =
    if same_text name other then rest_behind names others else None

-- where the object at a path stood before a change, if it was there
abbrev pub path_before : Change → List (List ℕ) → Option (List (List ℕ))
path_before (Sets at sent) path = Some path
path_before (Moves at to) path = option_map_or (λ rest. Some (at ++ rest)) (rest_behind to path)
    (Some path)
path_before (Comes at node) path = option_map_or (λ rest. None) (rest_behind at path) (Some path)

-- the same of changes in turn
abbrev pub came_from : List Change → List (List ℕ) → Option (List (List ℕ))
came_from [] path = Some path
came_from (change ∷ changes) path =
    option_map_or (path_before change) (came_from changes path) None

-- ---- what a caller may do

-- rights and removal at the end of a way along these names; nothing where no object stands there
abbrev pub grant_along : Caller → List Site → List (List ℕ) → List ℕ × Bool
grant_along caller sites path =
    let above = take (length path) sites in (
      option_map_or (rights caller above) (site_at sites path) [],
      option_map_or (may_remove caller above) (site_at sites path) false,
    )

-- What a row of a review says of a caller at a path.
abbrev pub grant_at : Content → Caller → List (List ℕ) → List ℕ × Bool
grant_at room caller path = grant_along caller (sites_along room path) path

-- ---- what is told of a change

-- what a caller could do at an object, and what it can do then
pub record Turn : Type 0 where
  pub had : List ℕ × Bool
  pub has : List ℕ × Bool

-- what the caller could do with the object at a path where it stood, and what it can do after the
-- changes; with one that wasn't there it could do nothing
abbrev pub turn_at : Content → List Change → Caller → List (List ℕ) → Turn
turn_at room changes caller path = record {
  had = option_map_or (grant_at room caller) (came_from changes path) ([], false);
  has = grant_at (changed_by room changes) caller path;
}

-- the same at each object on the way down from a path, along these names
abbrev pub turns_down : (List (List ℕ) → Turn) → List (List ℕ) → List (List ℕ) → List Turn
turns_down turn path [] = []
turns_down turn path (name ∷ names) =
    turn (path ++ name ∷ []) ∷ turns_down turn (path ++ name ∷ []) names

abbrev pub says_same : List ℕ × Bool → List ℕ × Bool → Bool
says_same a b = same_text a.0 b.0 && (if a.1 then b.1 else not b.1)

abbrev pub differs : Turn → Bool
differs turn = not (says_same turn.had turn.has)

-- both say the same; all that say of no change are alike
abbrev pub same_turn : Turn → Turn → Bool
same_turn a b =
    if differs a || differs b then says_same a.had b.had && says_same a.has b.has else true

-- The rows of a caller on a way down from an object: none at one that repeats what the object above
-- it says.
abbrev pub rows_down : Turn → List Turn → List (Option Turn)
rows_down above [] = []
rows_down above (turn ∷ turns) =
    (if same_turn turn above then None else Some turn) ∷ rows_down turn turns

-- the last row on a way down, where this one stands at its beginning
abbrev pub nearest : Turn → List (Option Turn) → Turn
nearest row [] = row
nearest row (None ∷ rows) = nearest row rows
nearest row (Some next ∷ rows) = nearest next rows
