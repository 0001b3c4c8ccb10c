use Rattle.std.proofs.Common.{◌≡◌, ◌++◌, map}
use Rattle.room_rows.specs.declared.node.Node.{Node}
use Rattle.room_memory.proofs.objects.ObjectMap.numbers.Given as goal

-- the numbers so far, and those of the objects that are left
abbrev pub invariant-loop-node : goal.invariant-loop-node
invariant-loop-node l =
    l.ids ++ map (λ (n : Node). n.id) l.node-iterator ≡ map (λ (n : Node). n.id) l.fn.self
