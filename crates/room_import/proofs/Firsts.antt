-- The pairs of rows: those of all rows, each once, in the order in which they come first.
use Rattle.std.proofs.Common.{rules, ℕ, zero, suc, ◌≡◌, ◌+◌, ◌∷◌, ◌++◌, Bool, true, false, cond}
use Rattle.std.proofs.Common.{List, [], take, length, Result, Ok, Err, refl, sym, ap, ◌∙◌, inl, inr}
use Rattle.std.proofs.{Common.{arith, append_assoc, append-nil}, lemmas.Bool.cases_Bool}
use Rattle.std.proofs.lemmas.Bool.{and_parts, and_from, or_cases, or_from, or_left, or_right}
use Rattle.std.proofs.lemmas.Bool.{or_parts, cond-true, cond-false, false≢true, not_from_false}
use Rattle.std.{proofs.lemmas.{Bool.not-true, List.Folds.list_any-append}, specs.Prelude.◌||◌}
use Rattle.std.specs.{Prelude.{◌&&◌, not}, List.list_any}
use Rattle.room_entry.{specs.Names.is_name, proofs.Texts.same_text-sym}
use Rattle.room_import.specs.declared.fault.{CsvFault.CsvFault, CsvWhy.TheVariants.BadName}
use Rattle.room_import.specs.{declared.fault.CsvWhy.TheVariants.NotUtf8, Groups.and_then}
use Rattle.room_import.specs.Groups.{fault_at, pair_of, pair_of_row, pairs_after, same_pair}
use Rattle.room_import.specs.{Groups.with_pair, Exports.{FirstFault, PairsOfRows, are_once}}
use Rattle.room_import.{specs.Exports.{has_pair, pair_row}, proofs.SeenFacts.{with_new, with_old}}

abbrev Pair : Type 0
Pair = List ℕ × List ℕ

abbrev Rows : Type 0
Rows = List (List (List ℕ))

-- ---- pairs that are the same

pair_is : (a b : Pair) → same_pair a b ≡ true → a ≡ b
pair_is a b same = search (rules, and_parts, a.0, b.0, a.1, b.1, same)

same_pair-sym : (a b : Pair) → same_pair a b ≡ same_pair b a
same_pair-sym a b = grind (arith, a.1, b.1, same_text-sym, a.0, b.0)

-- what passes as a pair that is there passes there
held : (test : Pair → Bool) (pair : Pair) (before : List Pair)
    → list_any (same_pair pair) before ≡ true → test pair ≡ true → list_any test before ≡ true
held test pair [] there passes = absurd (false≢true there)
held test pair (other ∷ before) there passes =
    elim (or_cases (same_pair pair other) (list_any (same_pair pair) before) there) [
      | inl same ↦ search (rules, or_left, test, pair_is, pair, same, passes)
      | inr later ↦
          or_right (test other) (list_any test before) (held test pair before later passes)
    ]

once_more : (pairs : List Pair) (pair : Pair) → are_once pairs ≡ true
    → list_any (same_pair pair) pairs ≡ false → are_once (pairs ++ pair ∷ []) ≡ true
once_more [] pair each new = refl
once_more (other ∷ pairs) pair each new =
    let apart = or_parts (same_pair pair other) (list_any (same_pair pair) pairs) new in
    let parts = and_parts (not (list_any (same_pair other) pairs)) (are_once pairs) each in
    let none : list_any (same_pair other) (pairs ++ pair ∷ []) ≡ false =
    list_any-append (same_pair other) pairs (pair ∷ [])
    ∙ or_from (list_any (same_pair other) pairs) (same_pair other pair || false)
    (not-true (list_any (same_pair other) pairs) parts.0)
    (or_from (same_pair other pair) false (same_pair-sym other pair ∙ apart.0) refl) in
    and_from (not (list_any (same_pair other) (pairs ++ pair ∷ [])))
    (are_once (pairs ++ pair ∷ []))
    (not_from_false (list_any (same_pair other) (pairs ++ pair ∷ [])) none)
    (once_more pairs pair parts.1 apart.1)

-- ---- one row

-- a row that gives a pair has its two fields
named_is : (row : ℕ) (both : Bool) (group user : List ℕ) (pair : Pair)
    → cond both (Ok (group, user)) (fault_at row BadName) ≡ Ok pair → (group, user) ≡ pair
named_is row true group user pair is = cc
named_is row false group user pair is = absurd (cc)

fields_are : (row : ℕ) (fields : List (List ℕ)) (pair : Pair) → pair_of row fields ≡ Ok pair
    → fields ≡ pair_row pair
fields_are row [] pair is = absurd (cc)
fields_are row (group ∷ []) pair is = absurd (cc)
fields_are row (group ∷ user ∷ []) pair is =
    ap pair_row (named_is row (is_name group && is_name user) group user pair is)
fields_are row (group ∷ user ∷ more ∷ fields) pair is = absurd (cc)

text_is : (row : ℕ) (text : Bool) (fields : List (List ℕ)) (pair : Pair)
    → cond text (pair_of row fields) (fault_at row NotUtf8) ≡ Ok pair → fields ≡ pair_row pair
text_is row true fields pair is = fields_are row fields pair is
text_is row false fields pair is = absurd (cc)

row_is : (row : ℕ) (fields : List (List ℕ)) (pair : Pair) → pair_of_row row fields ≡ Ok pair
    → fields ≡ pair_row pair
row_is row fields pair is = grind (arith, pair, cond-true, is, text_is, cond-false)

-- what the next row gives, and the pairs behind it
next_pair : (before : List Pair) (row : ℕ) (rows : Rows) (pairs : List Pair)
    (found : Result Pair CsvFault)
    → and_then found (λ pair. pairs_after (with_pair before pair) (row + 1) rows) ≡ Ok pairs
    → (pair : Pair) × (found ≡ Ok pair)
    × (pairs_after (with_pair before pair) (row + 1) rows ≡ Ok pairs)
next_pair before row rows pairs (Ok pair) is = (pair, refl, is)
next_pair before row rows pairs (Err fault) is = absurd (cc)

ok_is : (a b : List Pair) → ◌≡◌ {A = Result (List Pair) CsvFault} (Ok a) (Ok b) → a ≡ b
ok_is a b same = cc

-- ---- which pairs

or_none : (a : Bool) → a ≡ (a || false)
or_none true = refl
or_none false = refl

or_assoc : (a b c : Bool) → ((a || (b || false)) || c) ≡ (a || (b || c))
or_assoc true b c = refl
or_assoc false true c = refl
or_assoc false false c = refl

or_old : (a b c : Bool) → (b ≡ true → a ≡ true) → (a || c) ≡ (a || (b || c))
or_old true b c there = refl
or_old false true c there = absurd (false≢true (there refl))
or_old false false c there = refl

any_with : (test : Pair → Bool) (before : List Pair) (pair : Pair) (rest : Bool)
    → (list_any test (with_pair before pair) || rest) ≡ (list_any test before || (test pair || rest))
any_with test before pair rest =
    grind (arith, pair, test, with_old, or_old, held, with_new, list_any-append, or_assoc)

any_after : (test : Pair → Bool) (before : List Pair) (row : ℕ) (rows : Rows) (pairs : List Pair)
    → pairs_after before row rows ≡ Ok pairs
    → list_any test pairs ≡ (list_any test before || list_any (has_pair test) rows)
any_after test before row [] pairs is =
    ap (list_any test) (sym (ok_is before pairs is)) ∙ or_none (list_any test before)
any_after test before row (fields ∷ rows) pairs is =
    let next = next_pair before row rows pairs (pair_of_row row fields) is in
    let fields_is = row_is row fields next.0 next.1 in
    any_after test (with_pair before next.0) (row + 1) rows pairs next.2
    ∙ any_with test before next.0 (list_any (has_pair test) rows)
    ∙ ap (λ f. list_any test before || (has_pair test f || list_any (has_pair test) rows))
    (sym fields_is)

-- ---- each once

once_with : (before : List Pair) (pair : Pair) → are_once before ≡ true
    → are_once (with_pair before pair) ≡ true
once_with before pair each = grind (arith, pair, with_old, each, with_new, once_more)

once_after : (before : List Pair) (row : ℕ) (rows : Rows) (pairs : List Pair)
    → are_once before ≡ true → pairs_after before row rows ≡ Ok pairs → are_once pairs ≡ true
once_after before row [] pairs each is = ap are_once (sym (ok_is before pairs is)) ∙ each
once_after before row (fields ∷ rows) pairs each is =
    let next = next_pair before row rows pairs (pair_of_row row fields) is in
    once_after (with_pair before next.0) (row + 1) rows pairs (once_with before next.0 each) next.2

-- ---- in order

grows_with : (before : List Pair) (pair : Pair)
    → (late : List Pair) × (with_pair before pair ≡ before ++ late)
grows_with before pair =
    elim (cases_Bool (list_any (same_pair pair) before)) [
      | inl there ↦ ([], with_old before pair there ∙ sym (append-nil before))
      | inr new ↦ (pair ∷ [], with_new before pair new)
    ]

grows : (before : List Pair) (row : ℕ) (rows : Rows) (pairs : List Pair)
    → pairs_after before row rows ≡ Ok pairs → (late : List Pair) × (pairs ≡ before ++ late)
grows before row [] pairs is = ([], sym (ok_is before pairs is) ∙ sym (append-nil before))
grows before row (fields ∷ rows) pairs is =
    let next = next_pair before row rows pairs (pair_of_row row fields) is in
    let first = grows_with before next.0 in
    let rest = grows (with_pair before next.0) (row + 1) rows pairs next.2 in (
      first.0 ++ rest.0,
      rest.1 ∙ ap (λ early. early ++ rest.0) first.1 ∙ append_assoc before first.0 rest.0,
    )

fronts : (n : ℕ) (before : List Pair) (row : ℕ) (rows : Rows) (pairs : List Pair)
    → pairs_after before row rows ≡ Ok pairs
    → (early : List Pair) × (late : List Pair)
    × (pairs_after before row (take n rows) ≡ Ok early) × (pairs ≡ early ++ late)
fronts zero before row rows pairs is =
    let all = grows before row rows pairs is in (before, all.0, refl, all.1)
fronts (suc n) before row [] pairs is =
    (before, [], refl, sym (ok_is before pairs is) ∙ sym (append-nil before))
fronts (suc n) before row (fields ∷ rows) pairs is =
    let next = next_pair before row rows pairs (pair_of_row row fields) is in
    let rest = fronts n (with_pair before next.0) (row + 1) rows pairs next.2 in (
      rest.0,
      rest.1,
      ap (λ (found : Result Pair CsvFault). and_then found
          (λ pair. pairs_after (with_pair before pair) (row + 1) (take n rows))) next.1 ∙ rest.2,
      rest.3,
    )

pub pairs_of_rows_are : PairsOfRows
pairs_of_rows_are rows pairs is = record {
  each = λ test. any_after test [] 2 rows pairs is;
  once = once_after [] 2 rows pairs refl is;
  in_order = λ n. fronts n [] 2 rows pairs is;
}

-- ---- the first fault

-- the first row that gives no pair, the pairs of those before it, and its fault
abbrev FaultAt : List Pair → ℕ → Rows → CsvFault → Type 0
FaultAt before row rows fault =
    (front : Rows) × (fields : List (List ℕ)) × (rest : Rows) × (pairs : List Pair)
    × (rows ≡ front ++ fields ∷ rest) × (pairs_after before row front ≡ Ok pairs)
    × (pair_of_row (row + length front) fields ≡ Err fault)

here : (row : ℕ) → row + 0 ≡ row
here row = omega arith

further : (row n : ℕ) → row + suc n ≡ row + 1 + n
further row n = omega arith

fault_step : (before : List Pair) (row : ℕ) (fields : List (List ℕ)) (rows : Rows)
    (fault : CsvFault)
    → ((pair : Pair) → pairs_after (with_pair before pair) (row + 1) rows ≡ Err fault
    → FaultAt (with_pair before pair) (row + 1) rows fault)
    → (found : Result Pair CsvFault) → pair_of_row row fields ≡ found
    → and_then found (λ pair. pairs_after (with_pair before pair) (row + 1) rows) ≡ Err fault
    → FaultAt before row (fields ∷ rows) fault
fault_step before row fields rows fault later (Err first) found is =
    let same : first ≡ fault = cc in (
      [],
      fields,
      rows,
      before,
      refl,
      refl,
      ap (λ n. pair_of_row n fields) (here row) ∙ found ∙ ap (λ (f : CsvFault). Err f) same,
    )
fault_step before row fields rows fault later (Ok pair) found is =
    let rest = later pair is in (
      fields ∷ rest.0,
      rest.1,
      rest.2,
      rest.3,
      ap (λ r. fields ∷ r) rest.4,
      ap (λ (f : Result Pair CsvFault). and_then f
          (λ p. pairs_after (with_pair before p) (row + 1) rest.0)) found ∙ rest.5,
      ap (λ n. pair_of_row n rest.1) (further row (length rest.0)) ∙ rest.6,
    )

fault_after : (before : List Pair) (row : ℕ) (rows : Rows) (fault : CsvFault)
    → pairs_after before row rows ≡ Err fault → FaultAt before row rows fault
fault_after before row [] fault is = absurd (cc)
fault_after before row (fields ∷ rows) fault is =
    fault_step before row fields rows fault
    (λ pair. fault_after (with_pair before pair) (row + 1) rows fault)
    (pair_of_row row fields) refl is

pub first_fault_is : FirstFault
first_fault_is rows fault is = fault_after [] 2 rows fault is
