use Rattle.std.proofs.Common.{◌≡◌, ◌++◌, drop}
use Rattle.store_admin.specs.Operating.{pairs_seen}
use Rattle.store_admin.proofs.operating.see_pairs.Given as goal

-- the pairs so far and those of the rows that are left are all
abbrev pub invariant-loop-row : goal.invariant-loop-row
invariant-loop-row l = l.pairs.items ++ pairs_seen (drop l.row-index l.rows) ≡ pairs_seen l.fn.rows
