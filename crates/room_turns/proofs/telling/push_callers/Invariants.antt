use Rattle.std.{proofs.Common.{◌≡◌, ◌++◌, drop, length}, specs.List.zip}
use Rattle.room_import.specs.Exports.{rows_text}
use Rattle.room_turns.specs.Telling.{lines_of}
use Rattle.room_turns.proofs.telling.push_callers.Given as goal

-- the text so far and the rows of the callers that are left are all
abbrev pub invariant-loop-party : goal.invariant-loop-party
invariant-loop-party l =
    l.answer ++ rows_text (lines_of l.all l.told
    (drop (length l.yielded) (zip l.parties l.told.spot.stands)))
    ≡ l.fn.answer ++ rows_text (lines_of l.all l.told (zip l.parties l.told.spot.stands))
