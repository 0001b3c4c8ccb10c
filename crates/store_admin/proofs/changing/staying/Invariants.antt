use Rattle.std.proofs.Common.{◌≡◌, ◌++◌, drop}
use Rattle.store_admin.specs.Changing.{staying}
use Rattle.store_admin.proofs.changing.staying.Given as goal

-- the pairs so far and those that are left
abbrev pub invariant-loop-pair : goal.invariant-loop-pair
invariant-loop-pair l =
    l.kept.items ++ staying l.fn.leaves (drop l.pair-index l.pairs) ≡ staying l.fn.leaves l.fn.pairs
