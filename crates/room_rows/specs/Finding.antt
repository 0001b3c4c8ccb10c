-- Objects found in a list of them.
use Rattle.std.specs.Prelude.{ℕ, ◌==◌, ◌&&◌, List, Option, is_none}
use Rattle.std.specs.List.{find}
use Rattle.room_entry.specs.Pieces.{same_text}
use Rattle.room_rows.specs.declared.node.Node.{Node}
use Rattle.room_rows.specs.Content.{has_parent}

abbrev pub find_id : ℕ → List Node → Option Node
find_id id nodes = find (λ node. node.id == id) nodes

abbrev pub first_root : List Node → Option Node
first_root nodes = find (λ node. is_none node.parent) nodes

abbrev pub find_named : ℕ → List ℕ → List Node → Option Node
find_named parent name nodes =
    find (λ node. has_parent parent node && same_text node.name name) nodes
