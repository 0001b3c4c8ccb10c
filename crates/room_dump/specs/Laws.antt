-- Laws of the text of a room.
use Rattle.std.specs.Prelude.{◌≡◌, ℕ, ◌≤◌, [], Some, length}
use Rattle.room_rows.specs.declared.node.Node.{Node}
use Rattle.room_rows.specs.Content.{root_of}
use Rattle.room_rows.specs.Rows.{AreRows, Rows, numbers_of}
use Rattle.room_dump.specs.Dump.{objects_text, tree_text}

-- The text of a room is the same at every greater depth: nothing is left out.
abbrev pub TextIsWhole : Type 0
TextIsWhole =
    (rows : Rows) → AreRows rows → (root : Node) → root_of rows.read ≡ Some root → (depth : ℕ)
    → length (numbers_of rows) ≤ depth → tree_text depth rows.read [] root ≡ objects_text rows
