-- The test of UTF-8, and texts.
use Rattle.std.proofs.Common.{rules, ◌≡◌, ℕ, zero, suc, ◌<◌, ◌≤◌, ◌==◌, true, false, List, [], ◌∷◌}
use Rattle.std.proofs.Common.{length, take, subst, arith, inl, inr, get_or, nat_lt}
use Rattle.std.proofs.lemmas.Bool.{cases_Bool, and_parts, or_from, ne_eqb, false_from_ne_true}
use Rattle.std.proofs.lemmas.{Bool.Decides.nat_tests, List.take_all, Str.IsUtf8-from_ascii}
use Rattle.std.proofs.lemmas.Str.{IsUtf8-from_is_utf8, IsUtf8-nil, is_utf8-from_IsUtf8}
use Rattle.std.{proofs.lemmas.Str.utf8_valid_len-IsValidUpTo, specs.{List.list_all, Str.IsUtf8}}
use Rattle.std.specs.Str.{IsValidUpTo, is_utf8 as is_text, Lossy.utf8_valid_len}
use Rattle.room_entry.specs.Utf8.{is_utf8}

-- where all bytes are below 128, the byte at any place is, and so is the 0 past the end
pub ascii_at : (bytes : List ℕ) → list_all (λ byte. nat_lt byte 128) bytes ≡ true → (i : ℕ)
    → get_or bytes i 0 < 128
ascii_at [] h i = omega arith
ascii_at (b ∷ bs) h zero = grind (arith, nat_tests)
ascii_at (b ∷ bs) h (suc i) =
    ascii_at bs (and_parts (nat_lt b 128) (list_all (λ byte. nat_lt byte 128) bs) h).1 i

-- bytes that are UTF-8 up to a place, and no further, fail the test
pub fails_as_utf8 : (bytes : List ℕ) (n : ℕ) → ¬ (IsUtf8 bytes) → IsValidUpTo bytes n
    → is_utf8 bytes ≡ false
fails_as_utf8 bytes n isnt upto =
    or_from (list_all (λ byte. nat_lt byte 128) bytes) (utf8_valid_len bytes == length bytes)
    (false_from_ne_true _ (λ e. isnt (IsUtf8-from_ascii bytes (ascii_at bytes e))))
    (search (rules, ne_eqb, utf8_valid_len-IsValidUpTo, upto, upto.short))

-- ---- what passes is UTF-8

-- bytes that aren't UTF-8 have a longest front that is, and more after it
abbrev Front : List ℕ → Type 0
Front bytes = (n : ℕ) × IsValidUpTo bytes n

front_below : (bytes : List ℕ) (k : ℕ) → k ≤ length bytes
    → ((m : ℕ) → k ≤ m → ¬ (IsUtf8 (take m bytes))) → Front bytes
front_below bytes zero within none = absurd (none 0 (omega arith) IsUtf8-nil)
front_below bytes (suc k) within none = elim (cases_Bool (is_text (take k bytes))) [
  | inl holds ↦ (
    k,
    record {
      short = omega (arith, within);
      front = IsUtf8-from_is_utf8 (take k bytes) holds;
      longest = λ m more. none m (omega (arith, more));
    },
  )
  | inr isnt ↦ front_below bytes k (omega (arith, within)) (λ m at is. elim (cases_Bool (k == m)) [
    | inl same ↦ grind (arith, nat_tests, equal, is_utf8-from_IsUtf8)
    | inr apart ↦ none m (above k m at apart) is
  ])
]
  where
    equal : (a b : ℕ) → (a == b) ≡ true → a ≡ b
    equal a b same = grind arith

    above : (a b : ℕ) → a ≤ b → (a == b) ≡ false → suc a ≤ b
    above a b at apart = grind arith

-- bytes that aren't UTF-8 fail the test, with nothing known of such a place
pub other_as_utf8 : (bytes : List ℕ) → ¬ (IsUtf8 bytes) → is_utf8 bytes ≡ false
other_as_utf8 bytes isnt =
    let (n, up_to) = front_below bytes (length bytes) (omega arith)
    (λ m past is. isnt (subst IsUtf8 (take_all m bytes past) is)) in
    fails_as_utf8 bytes n isnt up_to

-- bytes that pass the test are UTF-8
pub text_from : (bytes : List ℕ) → is_utf8 bytes ≡ true → IsUtf8 bytes
text_from bytes passed = elim (cases_Bool (is_text bytes)) [
  | inl holds ↦ IsUtf8-from_is_utf8 bytes holds
  | inr isnt ↦
      absurd
      (grind (arith, nat_tests, is_utf8-from_IsUtf8, other_as_utf8))
]
