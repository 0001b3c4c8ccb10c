use Rattle.std.proofs.Common.{◌≡◌, [], drop}
use Rattle.store_tables.specs.{Meaning.node_in, Seeing.seen_behind}
use Rattle.store_tables.proofs.seen.see_all.Given as goal

-- the objects so far, followed by what the rest is read as, are what all rows are read as
abbrev pub invariant-loop-row : goal.invariant-loop-row
invariant-loop-row l =
    seen_behind node_in l.nodes (drop l.row-index l.rows) ≡ seen_behind node_in [] l.fn.rows
