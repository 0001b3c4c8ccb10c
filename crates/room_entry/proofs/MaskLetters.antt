-- Masks read from their letters.
use Rattle.std.proofs.Common.{rules, ℕ, ◌+◌, ◌<◌, ◌≡◌, Bool, true, false, ◌&&◌, ◌||◌, List, [], ◌∷◌}
use Rattle.std.proofs.Common.{map, Option, refl, sym, ap, ◌∙◌, subst, inl, inr, length, take}
use Rattle.std.proofs.{Common.{get_or, arith}, lemmas.Bool.{cases_Bool, and_parts}}
use Rattle.std.proofs.lemmas.{Bool.Decides.nat_tests, List.{take_more, Folds.list_any-append}}
use Rattle.std.{proofs.lemmas.List.Folds.list_all-append, specs.Prelude.{◌==◌, filter, find}}
use Rattle.std.specs.{Prelude.{bit_and, MatchOption}, List.list_all, Option.option_map}
use Rattle.room_entry.specs.{Bits.{all_bits, has, bits_of}, BitLaws.{has-chosen, chosen_agree}}
use Rattle.room_entry.specs.{Pieces.{is_among, same_text}, Letters.{bit_named, letter_of}}
use Rattle.room_entry.{specs.Letters.mask_letters, proofs.{Letters.the_table, Texts.same_text-true}}

-- the mask of the letters of a text
abbrev pub spelled : List ℕ → List ℕ
spelled text = filter (λ bit. is_among text (letter_of bit)) all_bits

abbrev pub are_letters : List ℕ → Bool
are_letters text = list_all (is_among mask_letters) text

-- one letter more
pub spelled_more : (text : List ℕ) (i : ℕ) → i < length text
    → filter (λ b. has (spelled (take i text)) b || has (bit_named (get_or text i 0)) b) all_bits
    ≡ spelled (take (i + 1) text)
spelled_more text i below =
    let letter = get_or text i 0 in
    chosen_agree (λ b. has (spelled (take i text)) b || has (bit_named letter) b)
    (λ b. is_among (take (i + 1) text) (letter_of b)) (λ b h.
    ap (λ t. t || has (bit_named letter) b)
    (has-chosen (λ bit. is_among (take i text) (letter_of bit)) b h)
    ∙ ap (λ t. is_among (take i text) (letter_of b) || t)
    (has-chosen (λ bit. letter == letter_of bit) b h ∙ sym (or_none (letter == letter_of b)))
    ∙ sym (list_any-append (λ other. other == letter_of b) (take i text) (letter ∷ []))
    ∙ ap (λ (l : List ℕ). is_among l (letter_of b)) (sym (take_more text i 0 below)))
  where
    or_none : (t : Bool) → (t || false) ≡ t
    or_none true = refl
    or_none false = refl

pub letters_more : (text : List ℕ) (i : ℕ) → i < length text → are_letters (take i text) ≡ true
    → is_among mask_letters (get_or text i 0) ≡ true → are_letters (take (i + 1) text) ≡ true
letters_more text i below before here =
    ap are_letters (take_more text i 0 below)
    ∙ list_all-append (is_among mask_letters) (take i text) (get_or text i 0 ∷ [])
    ∙ ap (λ t. t && (is_among mask_letters (get_or text i 0) && true)) before
    ∙ ap (λ t. t && true) here

-- ---- one letter

abbrev is_row : ℕ × ℕ → Bool
is_row row = same_text (bits_of row.0) (bit_named row.1) && (bit_and row.0 0x1F07FF == row.0)

-- what a row says of a letter: its bit is known, and is the one of that letter
pub record Names (letter bits : ℕ) : Type 0 where
  pub letter_is_known : is_among mask_letters letter ≡ true
  pub bit : bits_of bits ≡ bit_named letter
  pub known : bit_and bits 0x1F07FF ≡ bits

abbrev found_in : List (ℕ × ℕ) → ℕ → Option ℕ
found_in rows letter = option_map (λ row. row.0) (find (λ row. row.1 == letter) rows)

names_row : (row : ℕ × ℕ) (letter : ℕ) → (row.1 == letter) ≡ true → is_row row ≡ true
    → is_among mask_letters letter ≡ true → Names letter row.0
names_row row letter same good known = grind (arith, nat_tests, same_text-true)

in_rows : (rows : List (ℕ × ℕ)) (letter : ℕ) (known : Bool) → list_all is_row rows ≡ true
    → (is_among (map (λ row. row.1) rows) letter ≡ true → is_among mask_letters letter ≡ true)
    → MatchOption (found_in rows letter) (is_among (map (λ row. row.1) rows) letter ≡ false)
    (λ bits. Names letter bits)
in_rows [] letter known good within = refl
in_rows (row ∷ rows) letter known good within =
    let parts = and_parts (is_row row) (list_all is_row rows) good in
    elim (cases_Bool (row.1 == letter)) [
      | inl e ↦
          rw e
          (names_row row letter e parts.0
          (within (ap (λ t. t || is_among (map (λ (r : ℕ × ℕ). r.1) rows) letter) e)))
      | inr e ↦
          rw e
          (in_rows rows letter known parts.1
          (λ h. within (ap (λ t. t || is_among (map (λ (r : ℕ × ℕ). r.1) rows) letter) e ∙ h)))
    ]

all_rows : list_all is_row the_table ≡ true
unfolding all_bits mask_letters
all_rows = refl

letters_in : map (λ row. row.1) the_table ≡ mask_letters
unfolding all_bits mask_letters
letters_in = refl

-- what the table says of a letter
pub in_table : (letter : ℕ)
    → MatchOption (found_in the_table letter) (is_among mask_letters letter ≡ false)
    (λ bits. Names letter bits)
in_table letter = search (rules, in_rows, the_table, all_rows, letters_in)

-- the table as the code has it
abbrev pub letters_table : List (ℕ × ℕ)
letters_table =
    (0x1, 114) ∷ (0x2, 119) ∷ (0x4, 97) ∷ (0x8, 110) ∷ (0x10, 78) ∷ (0x20, 120) ∷ (0x40, 68)
    ∷ (0x80, 116) ∷ (0x100, 84) ∷ (0x200, 104)
    ∷ (0x400, 72) ∷ (0x10000, 100) ∷ (0x20000, 99) ∷ (0x40000, 67) ∷ (0x80000, 111)
    ∷ (0x100000, 121) ∷ []

table_is : the_table ≡ letters_table
unfolding all_bits mask_letters
table_is = refl

pub row_found : (letter : ℕ) (found : Option ℕ)
    → found ≡ option_map (λ row. row.0) (find (λ row. row.1 == letter) letters_table)
    → MatchOption found (is_among mask_letters letter ≡ false) (λ bits. Names letter bits)
row_found letter found e =
    subst (λ (o : Option ℕ). MatchOption o (is_among mask_letters letter ≡ false)
    (λ bits. Names letter bits))
    (sym (e ∙ ap (λ (t : List (ℕ × ℕ)). found_in t letter) (sym table_is))) (in_table letter)
