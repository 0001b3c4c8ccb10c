use Rattle.room_entry.specs.BitLaws.{bits_of-zero}
use Rattle.room_entry.proofs.mask.Mask.empty.Goals as goal

pub returns : goal.returns
returns c = bits_of-zero
