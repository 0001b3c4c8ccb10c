use Rattle.std.proofs.Common.{◌≡◌, ◌++◌, drop}
use Rattle.store_admin.proofs.changing.add.Given as goal

-- the pairs so far and those that are left
abbrev pub invariant-loop-pair : goal.invariant-loop-pair
invariant-loop-pair l =
    l.pairs.items ++ drop l.pair-index l.joins ≡ l.fn.pairs.items ++ l.fn.joins
