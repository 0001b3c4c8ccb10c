use Rattle.std.proofs.Common.{◌≡◌, ◌++◌, drop, map}
use Rattle.room_import.specs.Exports.{rows_text}
use Rattle.room_import.specs.Written.{StandsAtRow, written}
use Rattle.room_answer.specs.Answer.{fields}
use Rattle.room_answer.proofs.answer.push_all.Given as goal

-- the text so far and the rows that are left are all
abbrev pub invariant-loop-row : goal.invariant-loop-row
invariant-loop-row l = record {
  at_row : StandsAtRow l.writer;
  text : written l.writer ++ rows_text (map fields (drop l.row-index l.rows))
      ≡ written l.fn.writer ++ rows_text (map fields l.rows);
}
