use Rattle.std.proofs.Common.{arith}
use Rattle.room_entry.proofs.Singles.{table_single, table_bits}
use Rattle.room_entry.proofs.mask.Mask.singles.Goals as goal

pub singles_of-requires : goal.singles_of-requires
singles_of-requires c = table_single

pub returns : goal.returns
returns c = grind (arith, c.self.inside.bits, table_bits, c.self.view_is, c.singles_of.ensures)
