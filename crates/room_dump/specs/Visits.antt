-- What a walk below an object comes to (own).
use Rattle.std.specs.Prelude.{◌≡◌, ℕ, ◌+◌, ◌<◌, ◌≤◌, ◌==◌, Bool, true, List, [], ◌∷◌, ◌++◌, map}
use Rattle.std.specs.Prelude.{filter, reverse, length, Option, Some, None}
use Rattle.std.specs.List.{AllByRecursion as Each}
use Rattle.room_entry.specs.Counted.{count}
use Rattle.room_rows.specs.declared.node.Node.{Node}
use Rattle.room_rows.specs.Content.{Content, children_of, has_parent, node_at}
use Rattle.room_rows.specs.Keep.{IsUnreadable}
use Rattle.room_rows.specs.Rows.{Rows, numbers_of}
use Rattle.room_dump.specs.declared.visiting.Below.{Below}
use Rattle.room_dump.specs.declared.visiting.Visit.{Visit}
use Rattle.room_dump.specs.Dump.{path_below, tree_of}

-- ---- what comes

-- the object that a walk starts at
abbrev pub first_visit : Node → Visit
first_visit node = record { path = []; depth = 0; node = node }

-- a child of an object that it came to
abbrev pub visit_below : Visit → Node → Visit
visit_below over child = record {
  path = path_below over.path child;
  depth = over.depth + 1;
  node = child;
}

-- where it comes to an object: the path, and how many objects are on the way
abbrev pub Way : Type 0
Way = List ℕ × ℕ

abbrev pub way_below : Way → Node → Node → Way
way_below way node child = (path_below way.0 child, way.1 + 1)

abbrev pub visit_on : Way → Node → List Visit
visit_on way node = record { path = way.0; depth = way.1; node = node } ∷ []

-- An object, and after it its children with all that is below them, in order of name, no deeper
-- than the number says.
abbrev pub visits_from : ℕ → Content → Visit → List Visit
visits_from depth content visit =
    tree_of way_below visit_on depth content (visit.path, visit.depth) visit.node

-- children that wait, of which the first in order of name is taken next
abbrev pub waiting_below : Visit → List Node → List Visit
waiting_below over children = map (visit_below over) (reverse children)

-- what waits, the last one first, and after each all below it
abbrev pub to_come : Rows → List Visit → List Visit
to_come rows [] = []
to_come rows (visit ∷ waiting) =
    to_come rows waiting ++ visits_from (length (numbers_of rows)) rows.read visit

-- all that is still to come of a walk
abbrev pub coming : Rows → Below → List Visit
coming rows walk = to_come rows walk.waiting.items

-- ---- that it comes to an end

-- the object is found by its number
abbrev pub IsThere : Content → Node → Type 0
IsThere content node = node_at content node.id ≡ Some node

-- all children of the object are among these
abbrev pub HasAll : Content → List Node → Node → Type 0
HasAll content rest node =
    filter (has_parent node.id) rest ≡ filter (has_parent node.id) content.nodes

abbrev pub Fits : Content → List Node → Node → Type 0
Fits content rest node = HasAll content rest node × IsThere content node

abbrev pub is_number : ℕ → Node → Bool
is_number id node = node.id == id

abbrev pub always : Node → Bool
always node = true

-- The rest wasn't reached yet. All children of what waits and of the rest are among it, no object
-- stands twice, and no more are left than the number says.
pub record Reached (content : Content) (waiting : List Node) (left : ℕ) : Type 0 where
  pub rest : List Node
  pub waits : Each (Fits content rest) waiting
  pub rests : Each (HasAll content rest) rest
  pub once : (id : ℕ) → count (is_number id) waiting + count (is_number id) rest ≤ 1
  pub fewer : count always waiting + count always rest ≤ left

abbrev pub nodes_of : List Visit → List Node
nodes_of visits = map (λ visit. visit.node) visits

-- a walk that comes to its end
pub record GoesOn (rows : Rows) (walk : Below) : Type 0 where
  pub within : walk.left ≤ length (numbers_of rows)
  pub reached : Reached rows.read (nodes_of walk.waiting.items) walk.left

-- ---- what the functions of a walk promise

-- the walk starts at an object, and comes to so many at most
abbrev pub IsFrom : ℕ → Visit → Below → Type 0
IsFrom most first walk = (walk.left ≡ most) × (walk.waiting.items ≡ first ∷ [])

-- the first of all that is still to come, or none where nothing is
abbrev pub IsNext : Below → Below → Rows → Option Visit → Type 0
IsNext old new rows None = GoesOn rows old → coming rows old ≡ []
IsNext old new rows (Some visit) =
    GoesOn rows old
    → (coming rows old ≡ visit ∷ coming rows new) × GoesOn rows new
    × IsThere rows.read visit.node

abbrev pub IsBlocked : Below → Rows → ℕ → Type 0
IsBlocked walk rows row = GoesOn rows walk → IsUnreadable rows row

-- fewer may come after each object
abbrev pub EndsSooner : Below → Below → Option Visit → Type 0
EndsSooner old new None = Unit {0}
EndsSooner old new (Some visit) = new.left < old.left

-- the children of an object wait
abbrev pub Enters : Visit → List Visit → List Visit → Rows → Unit {0} → Type 0
Enters over before after rows answer =
    after ≡ before ++ waiting_below over (children_of rows.read over.node.id)
