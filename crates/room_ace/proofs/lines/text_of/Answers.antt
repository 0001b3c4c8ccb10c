use Rattle.std.proofs.Common.{arith}
use Rattle.room_ace.proofs.FirstLine.{is_utf8-other}
use Rattle.room_ace.proofs.lines.text_of.Goals as goal
use Rattle.room_entry.proofs.Texts.{passes_as_utf8}

pub returns-in-Ok : goal.returns-in-Ok
returns-in-Ok c = (passes_as_utf8 c.args.bytes.now c.in-Ok.ensures.cases.1, c.in-Ok.ensures.cases.0)

pub returns-in-Err : goal.returns-in-Err
returns-in-Err c =
    is_utf8-other c.args.bytes.now c.in-Err.ensures.cases.0
    (omega (arith, c.in-Err.ensures.cases.1.short, c.in-Err.ensures.valid_len))
