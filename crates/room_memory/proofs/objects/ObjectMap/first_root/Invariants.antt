use Rattle.std.proofs.Common.{◌≡◌}
use Rattle.room_rows.specs.Finding.{first_root}
use Rattle.room_memory.proofs.objects.ObjectMap.first_root.Given as goal

-- what is left has the same answer
abbrev pub invariant-loop-node : goal.invariant-loop-node
invariant-loop-node l = first_root l.node-iterator ≡ first_root l.fn.self
