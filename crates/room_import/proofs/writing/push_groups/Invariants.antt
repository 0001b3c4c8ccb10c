use Rattle.std.proofs.Common.{◌≡◌, ◌++◌, drop, map}
use Rattle.room_import.specs.Exports.{groups_text, pair_row, rows_text}
use Rattle.room_import.specs.Written.{StandsAtRow, written}
use Rattle.room_import.proofs.writing.push_groups.Given as goal

-- the text so far and the rows of the pairs that are left are all
abbrev pub invariant-loop-group : goal.invariant-loop-group
invariant-loop-group l = record {
  at_row : StandsAtRow l.writer;
  text : written l.writer ++ rows_text (map pair_row (drop l.group-index l.pairs))
      ≡ written l.fn.writer ++ groups_text l.pairs;
}
