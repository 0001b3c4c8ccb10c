-- Bytes that are no text are no letters of a mask.
use Rattle.std.proofs.{Common.{ℕ, ◌≡◌, Bool, true, false, List, refl}, lemmas.Bool.or_left}
use Rattle.std.proofs.lemmas.Bool.{false_from_ne_true, both_ways}
use Rattle.std.specs.{Prelude.nat_lt, List.list_all}
use Rattle.room_entry.specs.{Pieces.is_among, Letters.mask_letters, Utf8.is_utf8}
use Rattle.room_entry.proofs.{Facts.Lists.all_implied, Texts.at_bit}

abbrev is_ascii : ℕ → Bool
is_ascii byte = nat_lt byte 128

abbrev are_ascii : List ℕ → Bool
are_ascii bytes = list_all is_ascii bytes

letters_ascii : are_ascii mask_letters ≡ true
unfolding mask_letters
letters_ascii = refl

no_ascii : (bytes : List ℕ) → is_utf8 bytes ≡ false → are_ascii bytes ≡ true → ⊥
no_ascii bytes none all = both_ways (is_utf8 bytes) none (or_left (are_ascii bytes) _ all)

-- bytes that are no text are no letters of a mask
pub no_text_no_letters : (bytes : List ℕ) → is_utf8 bytes ≡ false
    → list_all (is_among mask_letters) bytes ≡ false
no_text_no_letters bytes none =
    false_from_ne_true (list_all (is_among mask_letters) bytes)
    (λ it. no_ascii bytes none
    (all_implied (is_among mask_letters) is_ascii
    (λ byte. at_bit is_ascii mask_letters byte letters_ascii) bytes it))
