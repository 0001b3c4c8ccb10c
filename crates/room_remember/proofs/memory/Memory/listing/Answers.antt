use Rattle.room_remember.proofs.Recalling.{recalled}
use Rattle.room_remember.proofs.memory.Memory.listing.Goals as goal
use Rattle.std.proofs.Common.{arith}

pub returns-in-Some : goal.returns-in-Some
returns-in-Some c =
    grind (arith, recalled, c.in-Some.ensures, c.listing.ensures)
