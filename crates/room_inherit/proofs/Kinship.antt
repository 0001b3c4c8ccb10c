-- An object with other inherited entries.
use Rattle.std.proofs.{Common.{◌≡◌, List, arith}, lemmas.Bool.Decides.nat_tests}
use Rattle.room_entry.specs.{Ace.Ace, declared.object.Which.Which}
use Rattle.room_rows.specs.{declared.node.Node.Node, Held.held_of, Keep.with_inh}

-- it keeps its parent, so it stays below the same object
pub same_parent : (which : Which) (entries : List Ace) (node : Node)
    → (with_inh which entries node).parent ≡ node.parent
same_parent which entries node = grind (arith, nat_tests)

-- it keeps its name
pub same_name : (which : Which) (entries : List Ace) (node : Node)
    → (with_inh which entries node).name ≡ node.name
same_name which entries node = grind (arith, nat_tests)

-- it keeps its kind: it is a document or a folder as before
pub same_kind : (which : Which) (entries : List Ace) (node : Node)
    → (with_inh which entries node).kind ≡ node.kind
same_kind which entries node = grind (arith, nat_tests)

-- inherited entries set after others replace them
pub with_last : (which : Which) (entries before : List Ace) (node : Node)
    → with_inh which entries (with_inh which before node) ≡ with_inh which entries node
with_last which entries before node = grind (arith, nat_tests)

-- inherited entries that it has already, set again, leave the object as it is
pub with_own : (which : Which) (node : Node) → with_inh which (held_of which node).inh node ≡ node
with_own which node = grind (arith, nat_tests)
