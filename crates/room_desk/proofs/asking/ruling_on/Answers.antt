use Rattle.std.proofs.Common.{arith}
use Rattle.room_desk.proofs.asking.ruling_on.Goals as goal

pub returns : goal.returns
returns c = grind (arith, c.ruling.ensures, c.full.ensures)
