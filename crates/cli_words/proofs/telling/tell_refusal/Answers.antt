use Rattle.cli_outcome.proofs.KnownBytes.{writes_none}
use Rattle.cli_words.proofs.telling.tell_refusal.Goals as goal
use Rattle.std.proofs.Common.{arith}

-- Where memory for the line runs out, nothing of it is written.
pub returns-in-Err : goal.returns-in-Err
returns-in-Err g c =
    grind (arith, writes_none, c.tell_fault.ensures.text, c.tell_fault.ensures.status)
