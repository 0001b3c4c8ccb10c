use Rattle.std.proofs.Common.{[], inl, inr}
use Rattle.cli_outcome.proofs.KnownBytes.{writes_none}
use Rattle.cli_outcome.proofs.texts.tell_text.Goals as goal

pub returns-in-Ok : goal.returns-in-Ok
returns-in-Ok g c =
    inl (record {
      said = c.in-Ok.ensures.ok;
      told = writes_none _ [];
      ends = c.code.ensures;
    })

pub returns-in-Err : goal.returns-in-Err
returns-in-Err g c =
    inr (record {
      said = c.in-Err.ensures.err;
      why = c.of_stream.result;
      is = c.of_stream.ensures.stream;
      told = c.tell_fault.ensures.text;
      ends = c.tell_fault.ensures.status;
    })
