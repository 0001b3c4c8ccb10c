-- Tests of each byte of a text, and texts that are the same.
use Rattle.std.proofs.Common.{rules, ℕ, ◌≡◌, Bool, true, cond, List, [], ◌∷◌, ◌++◌, filter, refl}
use Rattle.std.proofs.{Common.{sym, ap, ◌∙◌, inl, inr, length}, lemmas.Bool.{and_parts, and_from}}
use Rattle.std.proofs.lemmas.Bool.{eq-eqb, eqb-true, false≢true, or_cases, or_left, or_right}
use Rattle.std.proofs.lemmas.Str.{utf8_valid_len-IsUtf8}
use Rattle.std.specs.{Prelude.◌==◌, List.list_all, Str.{IsUtf8, Lossy.utf8_valid_len}}
use Rattle.room_entry.specs.{Bits.has, Pieces.same_text, Utf8.is_utf8}
use Rattle.room_entry.proofs.Facts.Booleans.{same_truth}

-- texts that pass the test of the same texts are equal
pub same_text-true : (a b : List ℕ) → same_text a b ≡ true → a ≡ b
same_text-true [] [] same = refl
same_text-true [] (y ∷ b) same = absurd (false≢true same)
same_text-true (x ∷ a) [] same = absurd (false≢true same)
same_text-true (x ∷ a) (y ∷ b) same = search (rules, and_parts, same, eqb-true)

-- a test that each byte of two texts passes is passed by each byte of the two joined
pub all-append : (p : ℕ → Bool) (xs ys : List ℕ) → list_all p xs ≡ true → list_all p ys ≡ true
    → list_all p (xs ++ ys) ≡ true
all-append p [] ys first second = second
all-append p (x ∷ xs) ys first second =
    let parts = and_parts (p x) (list_all p xs) first in
    and_from (p x) (list_all p (xs ++ ys)) parts.0 (all-append p xs ys parts.1 second)

-- what a test gives at a bit of the list
pub at_bit : (p : ℕ → Bool) (xs : List ℕ) (b : ℕ) → list_all p xs ≡ true → has xs b ≡ true
    → p b ≡ true
at_bit p [] b all it = absurd (false≢true it)
at_bit p (x ∷ xs) b all it =
    let parts = and_parts (p x) (list_all p xs) all in
    elim (or_cases (x == b) (has xs b) it) [
      | inl same ↦ ap p (sym (eqb-true x b same)) ∙ parts.0
      | inr there ↦
          at_bit p xs b parts.1 there
    ]

-- bytes that are UTF-8 pass the test
pub passes_as_utf8 : (bytes : List ℕ) → IsUtf8 bytes → is_utf8 bytes ≡ true
passes_as_utf8 bytes text =
    or_right _ _ (eq-eqb (utf8_valid_len bytes) (length bytes) (utf8_valid_len-IsUtf8 bytes text))

-- two tests that agree at each bit of the list keep the same bits of it
pub filter_agree : (p q : ℕ → Bool) (xs : List ℕ) → ((b : ℕ) → has xs b ≡ true → p b ≡ q b)
    → filter p xs ≡ filter q xs
filter_agree p q [] same = refl
filter_agree p q (x ∷ xs) same =
    let here : p x ≡ q x = same x (or_left (x == x) (has xs x) (eq-eqb x x refl)) in
    let there = filter_agree p q xs (λ b h. same b (or_right (x == b) (has xs b) h)) in
    ap (λ t. cond t (x ∷ filter p xs) (filter p xs)) here ∙ ap (λ ys. cond (q x) (x ∷ ys) ys) there

-- the test of the same texts doesn't ask which text comes first
pub same_text-sym : (a b : List ℕ) → same_text a b ≡ same_text b a
same_text-sym a b = search (rules, same_truth)
