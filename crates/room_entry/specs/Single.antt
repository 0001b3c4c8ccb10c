-- Masks of one bit.
use Rattle.std.specs.Prelude.{ℕ, ◌==◌, ◌&&◌, Bool, [], ◌∷◌, nat_lt, bit_and}
use Rattle.room_entry.specs.Bits.{bits_of}
use Rattle.room_entry.specs.Pieces.{same_text}

-- whether the number is that of a mask of one bit
abbrev pub is_single : ℕ → Bool
is_single number =
    nat_lt 0 number && (bit_and number 0x1F07FF == number)
    && same_text (bits_of number) (number ∷ [])
