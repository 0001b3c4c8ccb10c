use Rattle.std.proofs.Common.{◌≡◌, ◌++◌, drop, map}
use Rattle.store_admin.proofs.putting.in_order.Given as goal

-- the pairs so far and those that are left are all
abbrev pub invariant-loop-pair : goal.invariant-loop-pair
invariant-loop-pair l = map (λ p. p.now) l.order.items ++ drop l.pair-index l.pairs ≡ l.fn.pairs
