use Rattle.std.proofs.Common.{◌≡◌, ◌++◌, drop, map}
use Rattle.room_import.specs.Exports.{record_row, records_text, rows_text}
use Rattle.room_import.specs.Written.{StandsAtRow, written}
use Rattle.room_import.proofs.writing.push_records.Given as goal

-- the text so far and the rows of the records that are left are all
abbrev pub invariant-loop-audit : goal.invariant-loop-audit
invariant-loop-audit l = record {
  at_row : StandsAtRow l.writer;
  text : written l.writer ++ rows_text (map record_row (drop l.audit-index l.audits))
      ≡ written l.fn.writer ++ records_text l.audits;
}
