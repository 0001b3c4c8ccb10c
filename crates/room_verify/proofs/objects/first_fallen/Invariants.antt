use Rattle.std.proofs.Common.{◌≡◌, drop}
use Rattle.room_verify.specs.Objects.{first_fallen}
use Rattle.room_verify.proofs.objects.first_fallen.Given as goal

-- what is left has the first that falls behind the last number
abbrev pub invariant-loop-node : goal.invariant-loop-node
invariant-loop-node l =
    first_fallen l.last (drop l.node-index l.nodes) ≡ first_fallen 0 l.nodes
