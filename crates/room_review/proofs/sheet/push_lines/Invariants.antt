use Rattle.std.{proofs.Common.{◌≡◌, ◌++◌, drop, length}, specs.List.zip}
use Rattle.room_import.specs.{Exports.rows_text, Written.{StandsAtRow, written}}
use Rattle.room_review.specs.Lines.{lines}
use Rattle.room_review.proofs.sheet.push_lines.Given as goal

-- the text so far and the rows of the callers that are left are all
abbrev pub invariant-loop-party : goal.invariant-loop-party
invariant-loop-party l = record {
  at_row : StandsAtRow l.writer;
  text : written l.writer
      ++ rows_text (lines l.told.path.now l.told.kind l.told.all
      (drop (length l.yielded) (zip l.parties l.told.here.now)))
      ≡ written l.fn.writer
      ++ rows_text (lines l.told.path.now l.told.kind l.told.all (zip l.parties l.told.here.now));
}
