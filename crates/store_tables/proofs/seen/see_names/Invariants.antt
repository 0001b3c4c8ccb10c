use Rattle.std.proofs.Common.{◌≡◌, ◌++◌, drop}
use Rattle.store_tables.specs.Seeing.{names_seen}
use Rattle.store_tables.proofs.seen.see_names.Given as goal

-- the names so far and those of the rows that are left are all
abbrev pub invariant-loop-row : goal.invariant-loop-row
invariant-loop-row l = l.names ++ names_seen (drop l.row-index l.rows) ≡ names_seen l.fn.rows
