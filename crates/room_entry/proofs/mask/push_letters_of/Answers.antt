use Rattle.std.proofs.Common.{OnOk, ◌++◌, ◌≡◌, string_bytes, refl, subst, List, ℕ}
use Rattle.room_entry.{specs.{Bits.all_bits, Letters.mask_letters}, proofs.Letters.table_text-mask}
use Rattle.room_entry.proofs.mask.push_letters_of.Goals as goal

pub push_rows-requires : goal.push_rows-requires
unfolding all_bits
push_rows-requires c = refl

pub returns : goal.returns
unfolding all_bits mask_letters
returns c =
    subst (λ (letters : List ℕ). OnOk c.push_rows.result
    (string_bytes c.push_rows.new.text ≡ string_bytes c.args.text.now ++ letters))
    (table_text-mask c.args.bits) c.push_rows.ensures
