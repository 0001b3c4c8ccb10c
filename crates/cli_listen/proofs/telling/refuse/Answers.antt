use Rattle.std.proofs.Common.{arith}
use Rattle.cli_outcome.proofs.KnownBytes.{writes_none}
use Rattle.cli_listen.proofs.Texts.{told_as}
use Rattle.cli_listen.proofs.telling.refuse.Goals as goal

pub returns-in-Ok : goal.returns-in-Ok
returns-in-Ok g c =
    grind (arith, told_as, c.as_bytes.ensures.value, c.in-Ok.ensures.ok, c.tell_text.ensures)

pub returns-in-Err : goal.returns-in-Err
returns-in-Err g c =
    grind (arith, writes_none, c.tell_fault.ensures.text, c.tell_fault.ensures.status)
