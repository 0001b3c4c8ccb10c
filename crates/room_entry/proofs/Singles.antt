-- A mask taken apart into its bits.
use Rattle.std.proofs.Common.{rules, ℕ, ◌≡◌, ◌+◌, ◌<◌, true, false, cond, List, [], ◌∷◌, ◌++◌, map}
use Rattle.std.proofs.Common.{refl, length, get_or, drop, add-one, drop-cons, append_assoc, arith}
use Rattle.std.proofs.lemmas.{List.Folds.list_all_at, Bool.Decides.nat_tests}
use Rattle.std.specs.{Prelude.{filter, bit_and}, List.list_all}
use Rattle.room_entry.specs.{Bits.{all_bits, is_set, bits_of}, Single.is_single}
use Rattle.room_entry.proofs.{MaskLetters.letters_table, Texts.same_text-true}

-- the masks that the rows of a table give
abbrev pub singles_in : ℕ → List (ℕ × ℕ) → List (List ℕ)
singles_in n rows = map (λ bit. bit ∷ []) (filter (is_set n) (map (λ row. row.0) rows))

one_row : (n : ℕ) (row : ℕ × ℕ) (rows : List (ℕ × ℕ))
    → singles_in n (row ∷ rows)
    ≡ cond (is_set n row.0) ((row.0 ∷ []) ∷ singles_in n rows) (singles_in n rows)
one_row n row rows = grind (arith, nat_tests)

singles_more : (n : ℕ) (rows : List (ℕ × ℕ)) (i : ℕ) → i < length rows
    → singles_in n (drop i rows)
    ≡ cond (is_set n (get_or rows i (0, 0)).0)
    (((get_or rows i (0, 0)).0 ∷ []) ∷ singles_in n (drop (i + 1) rows))
    (singles_in n (drop (i + 1) rows))
singles_more n rows i below = search (rules, rows, add-one, drop-cons, below, one_row)

-- a turn that adds the row's bit, and one that doesn't
pub singles_pushed : (n : ℕ) (rows : List (ℕ × ℕ)) (i : ℕ) (masks new : List (List ℕ))
    → i < length rows → is_set n (get_or rows i (0, 0)).0 ≡ true
    → new ≡ masks ++ ((get_or rows i (0, 0)).0 ∷ []) ∷ []
    → new ++ singles_in n (drop (i + 1) rows) ≡ masks ++ singles_in n (drop i rows)
singles_pushed n rows i masks new below set pushed =
    search (rules, rows, pushed, append_assoc, singles_more, below, set)

pub singles_passed : (n : ℕ) (rows : List (ℕ × ℕ)) (i : ℕ) (masks new : List (List ℕ))
    → i < length rows → is_set n (get_or rows i (0, 0)).0 ≡ false → new ≡ masks
    → new ++ singles_in n (drop (i + 1) rows) ≡ masks ++ singles_in n (drop i rows)
singles_passed n rows i masks new below set same = grind (arith, nat_tests, singles_more)

-- a row of such a table has the number of one bit
pub record IsOne (bit : ℕ) : Type 0 where
  pub known : bit_and bit 0x1F07FF ≡ bit
  pub alone : bits_of bit ≡ bit ∷ []

pub single_at : (rows : List (ℕ × ℕ)) (i : ℕ) → i < length rows
    → list_all (λ row. is_single row.0) rows ≡ true → IsOne (get_or rows i (0, 0)).0
single_at rows i below all = grind (arith, nat_tests, list_all_at, same_text-true)

-- the table of the code
pub table_single : list_all (λ row. is_single row.0) letters_table ≡ true
unfolding all_bits
table_single = refl

pub table_bits : map (λ row. row.0) letters_table ≡ all_bits
unfolding all_bits
table_bits = refl
