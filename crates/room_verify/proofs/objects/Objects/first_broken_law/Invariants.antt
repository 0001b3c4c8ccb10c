use Rattle.std.{proofs.Common.{◌≡◌, not, drop}, specs.List.find}
use Rattle.room_rows.specs.{declared.node.Node.Node, Sound.keeps_law}
use Rattle.room_verify.specs.Objects.{only}
use Rattle.room_verify.proofs.objects.Objects.first_broken_law.Given as goal

-- what is left has the same answer
abbrev pub invariant-nodes : goal.invariant-nodes
invariant-nodes l =
    find (λ (n : Node). not (keeps_law (only l.self) n)) (drop l.node-index l.node-items)
    ≡ find (λ (n : Node). not (keeps_law (only l.self) n)) l.self
