use Rattle.std.proofs.Common.{◌≡◌, [], drop}
use Rattle.store_tables.specs.{Meaning.named_in, Seeing.seen_behind}
use Rattle.store_tables.proofs.seen.see_listing.Given as goal

-- the names so far, followed by what the rest is read as, are what all rows are read as
abbrev pub invariant-loop-row : goal.invariant-loop-row
invariant-loop-row l =
    seen_behind named_in l.names.items (drop l.row-index l.rows) ≡ seen_behind named_in [] l.fn.rows
