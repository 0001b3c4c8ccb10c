use Rattle.std.proofs.Common.{Some, None}
use Rattle.room_entry.proofs.MaskLetters.{row_found}
use Rattle.room_entry.proofs.mask.bit_of.Goals as goal

pub returns-in-None : goal.returns-in-None
returns-in-None c = row_found c.args.letter None c.in-None.ensures

pub returns-in-Some : goal.returns-in-Some
returns-in-Some c = let row = row_found c.args.letter (Some c.in-Some.bits) c.in-Some.ensures in
    (row.letter_is_known, row.bit)
