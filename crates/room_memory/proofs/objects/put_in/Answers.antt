use Rattle.std.proofs.Common.{arith}
use Rattle.room_memory.proofs.Tying.{settled, not_none}
use Rattle.room_memory.proofs.objects.put_in.Goals as goal

pub returns-clause-entries : goal.returns-clause-entries
returns-clause-entries c =
    grind (arith, settled, c.insert.ensures.entries, c.insert.ensures.absent, not_none, c.requires)
