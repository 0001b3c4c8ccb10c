use Rattle.cli_answer.proofs.telling.tell.Goals as goal
use Rattle.room_entry.proofs.Facts.KnownBytes.{Appends-none}

pub returns-in-Failed : goal.returns-in-Failed
returns-in-Failed g c =
    rw c.in-Failed.is
    (record {
      said = Appends-none _;
      told = c.tell_fault.ensures.text;
      ends = c.tell_fault.ensures.status;
    })
