use Rattle.std.proofs.Common.{◌≡◌, not, drop}
use Rattle.std.specs.{BTreeSet.contains, List.find, Ordering.nat_cmp}
use Rattle.room_rows.specs.{declared.node.Node.Node, Sound.reaches}
use Rattle.room_verify.specs.Objects.{AllLead, only}
use Rattle.room_verify.proofs.objects.Objects.first_loop.Given as goal

-- what is left has the same answer, and what is known leads to the root
abbrev pub invariant-nodes : goal.invariant-nodes
invariant-nodes l =
    record {
      same : find (λ (n : Node). not (reaches (only l.self) n)) (drop l.node-index l.node-items)
          ≡ find (λ (n : Node). not (reaches (only l.self) n)) l.self;
      known : AllLead l.self (contains nat_cmp l.known);
    }
