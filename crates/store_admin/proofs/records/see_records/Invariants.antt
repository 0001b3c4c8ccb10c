use Rattle.std.proofs.Common.{◌≡◌, ◌++◌, drop}
use Rattle.std.specs.{Prelude.is_some, List.{filter_map, list_all}}
use Rattle.store_admin.specs.Operating.{record_seen}
use Rattle.store_admin.proofs.records.see_records.Given as goal

-- the records so far and those of the rows that are left are all, and none so far can't be read
abbrev pub invariant-loop-row : goal.invariant-loop-row
invariant-loop-row l =
    (l.records.items ++ filter_map record_seen (drop l.row-index l.rows)
    ≡ filter_map record_seen l.fn.rows)
    × (list_all (λ r. is_some (record_seen r)) (drop l.row-index l.rows)
    ≡ list_all (λ r. is_some (record_seen r)) l.fn.rows)
