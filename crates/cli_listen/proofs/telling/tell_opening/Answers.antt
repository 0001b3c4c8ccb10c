use Rattle.std.proofs.Common.{rules}
use Rattle.cli_listen.proofs.Texts.{failed, refused}
use Rattle.cli_listen.proofs.telling.tell_opening.Goals as goal

pub returns-in-Ok : goal.returns-in-Ok
returns-in-Ok g c = search (rules, refused, c.in-Ok.ensures, c.refuse.ensures)

pub returns-in-Err : goal.returns-in-Err
returns-in-Err g c =
    search (rules, failed, c.in-Err.ensures, c.tell_fault.ensures.text, c.tell_fault.ensures.status)
