-- A set of pairs is in order, and none is lost or added.
use Rattle.std.proofs.Common.{rules, ◌≡◌, ℕ, ◌||◌, ◌&&◌, Bool, true, false, List, [], ◌∷◌, refl}
use Rattle.std.proofs.{Common.{sym, ap, ◌∙◌, inl, inr, arith}, lemmas.Bool.{cases_Bool, and_parts}}
use Rattle.std.proofs.lemmas.Bool.{and_from, or_parts, cond-true, false≢true, true≢false}
use Rattle.std.proofs.lemmas.{Bool.Decides.nat_tests, Cmp.nat_list_cmp_total}
use Rattle.std.{proofs.lemmas.Map.Text.is_eq-slice_cmp, specs.{List.list_any, Ordering.nat_cmp}}
use Rattle.std.specs.{Ordering.{is_lt, is_eq}, Cmp.Lexicographic.{slice_cmp, bytes_decides}}
use Rattle.std.specs.declared.cmp.Ordering.{Ordering, TheVariants.{Less, Equal, Greater}}
use Rattle.room_entry.specs.Pieces.{same_text}
use Rattle.room_rows.specs.{Content.{is_before, is_pair_before, put_pair, set_of}, Laws.SetOfPairs}
use Rattle.room_rows.specs.Laws.{are_rising}

abbrev Pair : Type 0
Pair = List ℕ × List ℕ

-- of two texts neither of which comes before the other, one is the other
text_total : (a b : List ℕ) → is_before a b ≡ false → is_before b a ≡ false → a ≡ b
text_total a b first second =
    by (slice_cmp nat_cmp a b) refl
  where
    by : (o : Ordering) → slice_cmp nat_cmp a b ≡ o → a ≡ b
    by Less e = absurd (true≢false (sym (ap is_lt e) ∙ first))
    by Equal e = (bytes_decides a b).0 (sym (is_eq-slice_cmp a b) ∙ ap is_eq e)
    by Greater e = grind (arith, nat_tests, nat_list_cmp_total)

then_false : (x y : Bool) → x ≡ true → (x && y) ≡ false → y ≡ false
then_false true y is none = none
then_false false y is none = absurd (false≢true is)

pair_total : (a b : Pair) → is_pair_before a b ≡ false → is_pair_before b a ≡ false → a ≡ b
pair_total a b first second =
    let up = or_parts (is_before a.0 b.0) (same_text a.0 b.0 && is_before a.1 b.1) first in
    let down = or_parts (is_before b.0 a.0) (same_text b.0 a.0 && is_before b.1 a.1) second in
    let group : a.0 ≡ b.0 = text_total a.0 b.0 up.0 down.0 in
    let user : a.1 ≡ b.1 =
    search (rules, text_total, a.1, b.1, then_false, a.0, b.0, group, up.1, down.1) in
    λ i. (group i, user i)

pub or_swap : (a b c : Bool) → (a || (b || c)) ≡ (b || (a || c))
or_swap a b c = grind (arith, nat_tests)

or_twice : (a c : Bool) → (a || c) ≡ (a || (a || c))
or_twice true c = refl
or_twice false c = refl

any_put : (test : Pair → Bool) (p : Pair) (l : List Pair)
    → list_any test (put_pair p l) ≡ (test p || list_any test l)
any_put test p [] = refl
any_put test p (o ∷ os) = grind (arith, nat_tests, or_swap, or_twice, pair_total, any_put test p os)

any_set : (test : Pair → Bool) (l : List Pair) → list_any test (set_of l) ≡ list_any test l
any_set test [] = refl
any_set test (p ∷ l) = any_put test p (set_of l) ∙ ap (λ b. test p || b) (any_set test l)

-- a pair put behind one that comes before it
rising_behind : (x y : Pair) (ys : List Pair) → is_pair_before y x ≡ true
    → are_rising (y ∷ ys) ≡ true → are_rising (y ∷ put_pair x ys) ≡ true
rising_behind x y [] up order = and_from (is_pair_before y x) true up refl
rising_behind x y (z ∷ zs) up order =
    let parts = and_parts (is_pair_before y z) (are_rising (z ∷ zs)) order in
    elim (cases_Bool (is_pair_before z x)) [
      | inl first ↦
          cc (
            cond-true (is_pair_before z x) (z ∷ put_pair x zs) _ first,
            and_from (is_pair_before y z) (are_rising (z ∷ put_pair x zs)) parts.0
                (rising_behind x z zs first parts.1),
          )
      | inr isnt ↦ grind (arith, nat_tests)
    ]

rising_put : (x : Pair) (ys : List Pair) → are_rising ys ≡ true → are_rising (put_pair x ys) ≡ true
rising_put x [] order = refl
rising_put x (y ∷ ys) order = grind (arith, nat_tests, rising_behind)

rising_set : (l : List Pair) → are_rising (set_of l) ≡ true
rising_set [] = refl
rising_set (p ∷ l) = rising_put p (set_of l) (rising_set l)

pub set_of_pairs : SetOfPairs
set_of_pairs pairs = (rising_set pairs, λ test. any_set test pairs)
