use Rattle.std.proofs.Common.{◌≡◌, ◌++◌, drop}
use Rattle.room_import.specs.Exports.{rows_text}
use Rattle.room_turns.{specs.Telling.rows_told, proofs.Rows.rows_left}
use Rattle.room_turns.proofs.telling.push_rows.Given as goal

-- the text so far and the rows of the objects that are left are all
abbrev pub invariant-objects : goal.invariant-objects
invariant-objects l =
    l.answer ++ rows_text (rows_left l.parties l.all (drop l.told-index l.objects))
    ≡ l.fn.answer ++ rows_text (rows_told l.parties l.objects)
