use Rattle.std.{proofs.Common.{◌≡◌, not, drop}, specs.List.find}
use Rattle.room_rows.specs.declared.node.Node.{Node}
use Rattle.room_verify.specs.{Objects.only, Kept.stores_kept_alone}
use Rattle.room_verify.proofs.objects.Objects.first_not_kept.Given as goal

-- what is left has the same answer
abbrev pub invariant-nodes : goal.invariant-nodes
invariant-nodes l =
    find (λ (n : Node). not (stores_kept_alone (only l.self) n)) (drop l.node-index l.node-items)
    ≡ find (λ (n : Node). not (stores_kept_alone (only l.self) n)) l.self
