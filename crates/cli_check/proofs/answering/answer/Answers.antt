use Rattle.cli_check.proofs.Told.{told, untold}
use Rattle.cli_check.proofs.answering.answer.Goals as goal
use Rattle.std.proofs.Common.{rules}

pub returns-in-Ok-clause-line : goal.returns-in-Ok-clause-line
returns-in-Ok-clause-line g c =
    told _ _ _ _ _ _ c.in-Ok.ensures.line c.send_reply.ensures.text c.send_reply.ensures.status
    c.send_reply.ensures.err

pub returns-in-Err-clause-line : goal.returns-in-Err-clause-line
returns-in-Err-clause-line g c =
    search (rules, untold)
