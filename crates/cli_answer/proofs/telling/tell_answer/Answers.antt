use Rattle.cli_answer.proofs.Texts.{told_as}
use Rattle.cli_outcome.proofs.KnownBytes.{writes_none}
use Rattle.cli_answer.proofs.telling.tell_answer.Goals as goal
use Rattle.std.proofs.Common.{arith}

pub returns-in-Ok : goal.returns-in-Ok
returns-in-Ok g c =
    grind (arith, told_as, c.in-Ok.ensures, c.status.ensures, c.tell_text.ensures)

pub returns-in-Err : goal.returns-in-Err
returns-in-Err g c =
    grind (arith, writes_none, c.tell_fault.ensures.text, c.tell_fault.ensures.status)
