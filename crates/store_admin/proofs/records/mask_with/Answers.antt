use Rattle.std.proofs.Common.{◌≡◌, ◌<◌, ◌^◌, ℕ, ℤ, pos, negsuc, None, refl, sym, ◌∙◌, arith}
use Rattle.std.proofs.{lemmas.{Bool.{cond-false, ne_eqb}, Int.to_z-of_z}}
use Rattle.std.specs.Int.{FitsUnsignedBits}
use Rattle.sqlite.specs.declared.types.Value.TheVariants.{Int}
use Rattle.room_entry.specs.{Bits.{bits_of, number_of}, BitLaws.{known_le, number_of-known}}
use Rattle.store_tables.specs.Meaning.{mask_in}
use Rattle.store_admin.proofs.records.mask_with.Goals as goal

low : (n : ℕ) → number_of (bits_of n) ≡ n → n < 2 ^ 32
low n known =
    let le = known_le n (sym (number_of-known n) ∙ known) in
    omega arith

over : (z : ℤ) → (FitsUnsignedBits 32 z → ⊥) → None ≡ mask_in (Int z)
over (negsuc n) high = refl
over (pos n) high =
    grind (arith, cond-false, ne_eqb, low, high)

pub returns-in-Err : goal.returns-in-Err
returns-in-Err c =
    grind (arith, over, to_z-of_z, c.ranges.number, c.in-Err.ensures)
