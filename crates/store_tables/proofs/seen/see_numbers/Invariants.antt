use Rattle.std.proofs.Common.{◌≡◌, ◌++◌, drop}
use Rattle.store_tables.specs.Seeing.{numbers_seen}
use Rattle.store_tables.proofs.seen.see_numbers.Given as goal

-- the numbers so far and those of the rows that are left are all
abbrev pub invariant-loop-row : goal.invariant-loop-row
invariant-loop-row l = l.ids ++ numbers_seen (drop l.row-index l.rows) ≡ numbers_seen l.fn.rows
