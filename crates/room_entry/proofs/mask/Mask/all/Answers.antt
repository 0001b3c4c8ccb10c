use Rattle.std.proofs.Common.{refl}
use Rattle.room_entry.specs.Bits.{all_bits}
use Rattle.room_entry.proofs.mask.Mask.all.Goals as goal

pub returns : goal.returns
unfolding all_bits
returns c = refl
