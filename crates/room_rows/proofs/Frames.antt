-- What a change of a content leaves, and what is found in it.
use Rattle.std.proofs.Common.{◌≡◌, ℕ, ◌==◌, ◌&&◌, true, false, List, ◌∷◌, map, Option, Some, None}
use Rattle.std.proofs.{Common.{refl, ap, arith}, lemmas.Bool.{eqb-true, false≢true, not_from_true}}
use Rattle.std.proofs.lemmas.{Bool.Decides.nat_tests, Slice.Eq.bytes_eq-Decides}
use Rattle.std.specs.{Prelude.{IsTrue, is_none}, Option.option_map_or}
use Rattle.room_entry.specs.Pieces.{same_text}
use Rattle.room_rows.specs.{declared.node.Node.Node, Content.{Content, node_at, has_parent}}
use Rattle.room_rows.specs.{Content.{root_of, child_of, without_node, is_rising}, Rows.Rows}
use Rattle.room_rows.{specs.Rows.AreRows, proofs.{Lookups.Stands, SamePlace.IsSamePlace}}
use Rattle.room_rows.proofs.Lookups as lookups

-- the numbers of the objects rise from 1, as those of rows do
abbrev pub Rises : Content → Type 0
Rises content = IsTrue (is_rising (0 ∷ map (λ (n : Node). n.id) content.nodes))

-- what any keeper sees to in its rows: the numbers of their objects rise
pub rows-rise : (rows : Rows) → AreRows rows → Rises rows.read
rows-rise rows are = are.numbers

-- ---- tests of a place

-- whether an object is below another follows from its place alone
pub has_parent-of_place : (id : ℕ) (a b : Node) → IsSamePlace a b
    → has_parent id a ≡ has_parent id b
has_parent-of_place id a b same = cc (same.parent)

-- so does whether it is there by this name
pub is_child-of_place : (id : ℕ) (name : List ℕ) (a b : Node) → IsSamePlace a b
    → (has_parent id a && same_text a.name name) ≡ (has_parent id b && same_text b.name name)
is_child-of_place id name a b same = grind (arith, nat_tests, has_parent-of_place)

parent_here : (id : ℕ) (parent : Option ℕ) → option_map_or (λ (p : ℕ). p == id) parent false ≡ true
    → parent ≡ Some id
parent_here id None is = absurd (false≢true is)
parent_here id (Some p) is = ap (λ (n : ℕ). Some n) (eqb-true p id is)

-- an object that passes the test of a parent has that parent
pub parent_is : (id : ℕ) (node : Node) → has_parent id node ≡ true → node.parent ≡ Some id
parent_is id node is = parent_here id node.parent is

-- an object passes the test of the parent that it has
pub has_its_parent : (id : ℕ) (node : Node) → node.parent ≡ Some id → has_parent id node ≡ true
has_its_parent id node is = grind (arith, nat_tests)

-- ---- what is found

-- an object found by a number has it
pub node_at-number : (content : Content) (id : ℕ) (node : Node) → node_at content id ≡ Some node
    → node.id ≡ id
node_at-number content id node found = lookups.found_number id content.nodes node found

stands_at : (content : Content) → Rises content → (node : Node) → Stands node content.nodes
    → node_at content node.id ≡ Some node
stands_at content rises node stands =
    lookups.stands-each (λ (n : Node). node_at content n.id ≡ Some n) content.nodes node
    (lookups.each_found 0 content.nodes rises) stands

-- the root has a number, and no parent
pub root_of-is_there : (content : Content) → Rises content → (root : Node)
    → root_of content ≡ Some root → node_at content root.id ≡ Some root
root_of-is_there content rises root found = search (lookups.stands-found, stands_at)

pub no_parent : (parent : Option ℕ) → is_none parent ≡ true → parent ≡ None
no_parent None is = refl
no_parent (Some id) is = absurd (false≢true is)

-- what is found as the root has no parent
pub root_of-parent : (content : Content) (root : Node) → root_of content ≡ Some root
    → root.parent ≡ None
root_of-parent content root found = search (lookups.found_passes, no_parent)

-- a child has a number, that parent and that name
pub child_of-is_there : (content : Content) → Rises content
    → (id : ℕ) (name : List ℕ) (child : Node) → child_of content id name ≡ Some child
    → node_at content child.id ≡ Some child
child_of-is_there content rises id name child found = search (lookups.stands-found, stands_at)

-- what is found below an object has that object as its parent
pub child_of-parent : (content : Content) (id : ℕ) (name : List ℕ) (child : Node)
    → child_of content id name ≡ Some child → child.parent ≡ Some id
child_of-parent content id name child found =
    grind (arith, nat_tests, lookups.found_passes, parent_is)

-- what is found below an object by a name has that name
pub child_of-name : (content : Content) (id : ℕ) (name : List ℕ) (child : Node)
    → child_of content id name ≡ Some child → child.name ≡ name
child_of-name content id name child found =
    grind (arith, nat_tests, bytes_eq-Decides, lookups.found_passes)

-- ---- an object removed

-- by the number of an object that was removed nothing is found
pub node_at-without_node : (content : Content) (id : ℕ)
    → node_at (without_node content id) id ≡ None
node_at-without_node content id = search (lookups.find-kept_gone, not_from_true)

-- by each other number the same is found as before the removal
pub node_at-without_node-other : (content : Content) (id other : ℕ) → (other ≡ id → ⊥)
    → node_at (without_node content id) other ≡ node_at content other
node_at-without_node-other content id other isnt = grind (arith, nat_tests, lookups.find-kept_all)
