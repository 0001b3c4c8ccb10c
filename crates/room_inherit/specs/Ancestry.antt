-- Objects whose parents lead to the root.
use Rattle.std.specs.Prelude.{◌≡◌, ℕ, length, Option, Some, IsTrue}
use Rattle.room_rows.specs.declared.node.Node.{Node}
use Rattle.room_rows.specs.Content.{Content, node_at, reaches_root}
use Rattle.room_inherit.specs.Spread.{IsOwnAncestor}

-- Where the parents of an object lead to the root, it isn't its own ancestor. So in such rows a
-- change is carried down without a loop.
abbrev pub RootedIsNoLoop : Type 0
RootedIsNoLoop = (rows : Content) (id n : ℕ) (node : Node) → node_at rows id ≡ Some node
    → IsTrue (reaches_root n rows node.parent) → IsOwnAncestor rows id → ⊥

-- Where parents lead to the root in any number of steps, they do in as many as there are objects.
abbrev pub EnoughSteps : Type 0
EnoughSteps = (rows : Content) (n : ℕ) (parent : Option ℕ) → IsTrue (reaches_root n rows parent)
    → IsTrue (reaches_root (length rows.nodes) rows parent)
