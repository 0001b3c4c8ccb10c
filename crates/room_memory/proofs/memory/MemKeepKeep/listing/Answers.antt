use Rattle.std.proofs.Common.{arith}
use Rattle.room_rows.proofs.Mixed.{mixed_same}
use Rattle.room_memory.proofs.memory.MemKeepKeep.listing.Goals as goal

-- each row can be read, so there are no others
pub returns-clause-read : goal.returns-clause-read
returns-clause-read c = grind (arith, mixed_same, c.in_ok-listing.ensures)
