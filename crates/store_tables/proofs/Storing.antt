-- An object that is stored is read back.
use Rattle.std.proofs.{Common.{◌≡◌, ◌<◌, pos, Some, arith}, lemmas.Bool.Decides.nat_tests}
use Rattle.room_rows.specs.declared.node.Node.{Node}
use Rattle.store_tables.specs.{declared.columns.Columns.Columns, Columns.{ReadsAsNode, values_of}}
use Rattle.store_tables.specs.{Meaning.node_in, Shown.{shown_node, stored_node}}

pub stored_back : (n : Node) (c : Columns) → 0 < n.id → ReadsAsNode n c
    → node_in (shown_node (stored_node (pos n.id) (values_of c))) ≡ Some n
stored_back n c low s = grind (arith, nat_tests)
