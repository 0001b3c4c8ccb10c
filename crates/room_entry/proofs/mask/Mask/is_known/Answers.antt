use Rattle.std.proofs.Common.{◌≡◌, filter}
use Rattle.room_entry.specs.Bits.{all_bits, has, is_set, bits_of}
use Rattle.room_entry.specs.BitLaws.{chosen_agree, has-chosen}
use Rattle.room_entry.proofs.mask.Mask.is_known.Goals as goal

pub returns : goal.returns
returns c =
    let n = c.self.inside.bits in
    let known : filter (has (bits_of n)) all_bits ≡ bits_of n = chosen_agree (has (bits_of n))
    (is_set n) (λ b h. has-chosen (is_set n) b h) in
    rw (← c.self.view_is) known
