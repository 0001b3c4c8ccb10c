-- The letters of a mask, by the table of bits and letters.
use Rattle.std.proofs.Common.{rules, ℕ, ◌≡◌, Bool, true, false, cond, not, eqb, List, [], ◌∷◌, ◌++◌}
use Rattle.std.proofs.Common.{map, refl, sym, ap, ◌∙◌, inl, inr, ◌+◌, ◌*◌, ◌^◌, ◌<◌, ◌≤◌, length}
use Rattle.std.proofs.Common.{get_or, drop, add-one, arith, drop-cons, append_assoc}
use Rattle.std.proofs.lemmas.Bool.{cases_Bool, and_parts, eqb-true, false≢true, Decides.nat_tests}
use Rattle.std.proofs.lemmas.{Nat.{pow_pos, Bits.{and_pow, bit_at-lt}}, List.drop_all}
use Rattle.std.proofs.lemmas.List.Folds.{list_all_at}
use Rattle.std.specs.{Prelude.{bit_and, filter, nat_lt, ◌==◌, ◌&&◌, ◌||◌}, List.{list_all, zip}}
use Rattle.room_entry.specs.{Bits.{all_bits, has, is_set, bits_of}, Letters.letter_in}
use Rattle.room_entry.specs.Letters.{mask_letters, mask_text, table_text}

abbrev bits_in : List (ℕ × ℕ) → List ℕ
bits_in rows = map (λ row. row.0) rows

-- each row's letter is the one that its bit has in the table
abbrev fits : List (ℕ × ℕ) → List (ℕ × ℕ) → Bool
fits table rows = list_all (λ row. letter_in table row.0 == row.1) rows

table_text-fits : (n : ℕ) (table rows : List (ℕ × ℕ)) → fits table rows ≡ true
    → table_text n rows ≡ map (letter_in table) (filter (is_set n) (bits_in rows))
unfolding table_text
table_text-fits n table [] fit = refl
table_text-fits n table (row ∷ rows) fit =
    let parts = and_parts (letter_in table row.0 == row.1) (fits table rows) fit in
    let rest = table_text-fits n table rows parts.1 in
    elim (cases_Bool (is_set n row.0)) [
      | inl e ↦
          rw e
          (ap (λ l. l ∷ table_text n rows) (sym (eqb-true (letter_in table row.0) row.1 parts.0))
          ∙ ap (λ ls. letter_in table row.0 ∷ ls) rest)
      | inr e ↦ rw e rest
    ]

abbrev pub the_table : List (ℕ × ℕ)
the_table = zip all_bits mask_letters

bits_in_table : bits_in the_table ≡ all_bits
unfolding all_bits mask_letters
bits_in_table = refl

it_fits : fits the_table the_table ≡ true
unfolding all_bits mask_letters
it_fits = refl

-- the whole table gives the mask's text
pub table_text-mask : (n : ℕ) → table_text n the_table ≡ mask_text (bits_of n)
table_text-mask n = search (rules, table_text-fits, it_fits, bits_in_table)

-- one more row, whose letter stands there or not
pub table_text_more : (n : ℕ) (rows : List (ℕ × ℕ)) (i : ℕ) (row : ℕ × ℕ) → i < length rows
    → table_text n (drop i rows)
    ≡ cond (is_set n (get_or rows i row).0)
    ((get_or rows i row).1 ∷ table_text n (drop (i + 1) rows)) (table_text n (drop (i + 1) rows))
unfolding table_text
table_text_more n rows i row below =
    let here : drop i rows ≡ get_or rows i row ∷ drop (i + 1) rows = rw add-one
    (drop-cons rows i row below) in
    ap (table_text n) here

pub table_text_all : (n : ℕ) (rows : List (ℕ × ℕ)) (i : ℕ) → length rows ≤ i
    → table_text n (drop i rows) ≡ []
unfolding table_text
table_text_all n rows i past = ap (table_text n) (drop_all i rows past)

-- a turn that adds the row's letter, and one that doesn't
pub table_text_pushed : (n : ℕ) (rows : List (ℕ × ℕ)) (i : ℕ) (text new : List ℕ) → i < length rows
    → is_set n (get_or rows i (0, 0)).0 ≡ true → new ≡ text ++ (get_or rows i (0, 0)).1 ∷ []
    → new ++ table_text n (drop (i + 1) rows) ≡ text ++ table_text n (drop i rows)
table_text_pushed n rows i text new below set pushed =
    let rest = table_text n (drop (i + 1) rows) in
    ap (λ (t : List ℕ). t ++ rest) pushed ∙ append_assoc text ((get_or rows i (0, 0)).1 ∷ []) rest
    ∙ ap (λ (t : List ℕ). text ++ t)
    (sym (table_text_more n rows i (0, 0) below
    ∙ ap (λ b. cond b ((get_or rows i (0, 0)).1 ∷ rest) rest) set))

pub table_text_passed : (n : ℕ) (rows : List (ℕ × ℕ)) (i : ℕ) (text new : List ℕ) → i < length rows
    → is_set n (get_or rows i (0, 0)).0 ≡ false → new ≡ text
    → new ++ table_text n (drop (i + 1) rows) ≡ text ++ table_text n (drop i rows)
table_text_passed n rows i text new below set same =
    let rest = table_text n (drop (i + 1) rows) in
    ap (λ (t : List ℕ). t ++ rest) same
    ∙ ap (λ (t : List ℕ). text ++ t)
    (sym (table_text_more n rows i (0, 0) below
    ∙ ap (λ b. cond b ((get_or rows i (0, 0)).1 ∷ rest) rest) set))

-- ---- one bit of a number

abbrev power : ℕ → ℕ
power i = 2 ^ i

among_powers : (b : ℕ) (is : List ℕ) → has (map power is) b ≡ true → (i : ℕ) × (power i ≡ b)
among_powers b [] h = absurd (false≢true h)
among_powers b (i ∷ is) h =
    elim (cases_Bool (eqb (power i) b)) [
      | inl e ↦ (i, eqb-true (power i) b e)
      | inr e ↦ among_powers b is (sym (ap (λ t. t || has (map power is) b) e) ∙ h)
    ]

-- each bit of a mask is a power of two
power_of : (b : ℕ) → has all_bits b ≡ true → (i : ℕ) × (power i ≡ b)
unfolding all_bits
power_of b h =
    among_powers b (0 ∷ 1 ∷ 2 ∷ 3 ∷ 4 ∷ 5 ∷ 6 ∷ 7 ∷ 8 ∷ 9 ∷ 10 ∷ 16 ∷ 17 ∷ 18 ∷ 19 ∷ 20 ∷ []) h

times_bit : (t q : ℕ) → t < 2 → 0 < q → not (t * q == 0) ≡ (t == 1)
times_bit t q below above = grind (arith, nat_tests)

-- what `n & b` leaves says whether n has the bit b
pub and_is_set : (n b : ℕ) → has all_bits b ≡ true → not (bit_and n b == 0) ≡ is_set n b
and_is_set n b h = search (rules, power_of, h, and_pow, times_bit, bit_at-lt, pow_pos)

-- a row of a table of bits and letters
pub row_at : (rows : List (ℕ × ℕ)) (i : ℕ) → i < length rows
    → list_all (λ row. has all_bits row.0 && nat_lt row.1 128) rows ≡ true
    → (has all_bits (get_or rows i (0, 0)).0 ≡ true) × ((get_or rows i (0, 0)).1 < 128)
row_at rows i below all = grind (arith, nat_tests, list_all_at)
