use Rattle.std.proofs.Common.{◌≡◌, ◌≤◌, ◌-◌, []}
use Rattle.room_import.specs.{Groups.pairs_after, Rows.{ReadsNextRow, rows_left}}
use Rattle.room_import.proofs.reading.read_pairs.Given as goal

-- the pairs so far, and then those of the rows that are left
abbrev pub invariant-rows : goal.invariant-rows
invariant-rows l = record {
  goes : ReadsNextRow l.reader;
  pairs : pairs_after [] 2 (rows_left l.fn.reader) ≡ pairs_after l.gathered l.number (rows_left l.reader);
  within : l.number ≤ 20002;
}

abbrev pub decreases-rows : goal.decreases-rows
decreases-rows l = 20003 - l.number
