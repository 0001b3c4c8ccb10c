-- Pairs in order.
use Rattle.std.proofs.Common.{rules, ◌≡◌, ℕ, suc, ◌<◌, ◌≤◌, ◌&&◌, ◌||◌, Bool, true, false, List, []}
use Rattle.std.proofs.Common.{◌∷◌, ◌++◌, filter, refl, sym, ap, subst, ◌∙◌, inl, inr, length, take}
use Rattle.std.proofs.{Common.{drop, get_or, drop-cons, arith}, lemmas.Bool.cases_Bool}
use Rattle.std.proofs.lemmas.Bool.{false≢true, true≢false, and_parts, and_from, cond-true}
use Rattle.std.proofs.lemmas.{Bool.{cond-false, Decides.nat_tests}, Cmp.nat_list_cmp_total}
use Rattle.std.proofs.lemmas.{Cmp.{on_total, then_total}, Map.Text.is_eq-slice_cmp}
use Rattle.std.proofs.lemmas.List.{take-append-drop, drop_all, get_or_default}
use Rattle.std.specs.{Cmp.{IsTotalOrder, Lexicographic.slice_cmp}, List.{AllByRecursion, insert}}
use Rattle.std.specs.{List.Sorted.IsStrictlySortedBy, Ordering.{nat_cmp, ordering_then}}
use Rattle.std.specs.{Ordering.{ordering_reverse, is_lt, is_eq}, declared.cmp.Ordering.Ordering}
use Rattle.std.specs.declared.cmp.Ordering.TheVariants.{Less, Equal, Greater}
use Rattle.room_entry.{specs.Pieces.same_text, proofs.Texts.same_text-true}
use Rattle.room_rows.specs.Content.{is_before, is_pair_before, put_pair, set_of}
use Rattle.room_memory.specs.Pairs.{pair_cmp, is_same_pair}

abbrev Pair : Type 0
Pair = List ℕ × List ℕ

total : IsTotalOrder pair_cmp
total = grind (arith, nat_tests, nat_list_cmp_total, on_total, then_total)

-- what comes before by group, then user
pub before_is : (a b : Pair) → is_pair_before a b ≡ is_lt (pair_cmp a b)
before_is a b = by (slice_cmp nat_cmp a.0 b.0) refl
  where
    by : (o : Ordering) → slice_cmp nat_cmp a.0 b.0 ≡ o
        → (is_lt (slice_cmp nat_cmp a.0 b.0) || (same_text a.0 b.0 && is_before a.1 b.1))
        ≡ is_lt (ordering_then (slice_cmp nat_cmp a.0 b.0) (slice_cmp nat_cmp a.1 b.1))
    by Less e =
        ap (λ o. is_lt o || (same_text a.0 b.0 && is_before a.1 b.1)) e
        ∙ sym (ap (λ o. is_lt (ordering_then o (slice_cmp nat_cmp a.1 b.1))) e)
    by Equal e =
        ap (λ o. is_lt o || (same_text a.0 b.0 && is_before a.1 b.1)) e
        ∙ ap (λ t. t && is_before a.1 b.1) (sym (is_eq-slice_cmp a.0 b.0) ∙ ap is_eq e)
        ∙ sym (ap (λ o. is_lt (ordering_then o (slice_cmp nat_cmp a.1 b.1))) e)
    by Greater e =
        ap (λ o. is_lt o || (same_text a.0 b.0 && is_before a.1 b.1)) e
        ∙ ap (λ t. t && is_before a.1 b.1) (sym (is_eq-slice_cmp a.0 b.0) ∙ ap is_eq e)
        ∙ sym (ap (λ o. is_lt (ordering_then o (slice_cmp nat_cmp a.1 b.1))) e)

less_is : (o : Ordering) → is_lt o ≡ true → o ≡ Less
less_is Less is = refl
less_is Equal is = absurd (false≢true is)
less_is Greater is = absurd (false≢true is)

less : (a b : Pair) → is_pair_before a b ≡ true → pair_cmp a b ≡ Less
less a b is = less_is (pair_cmp a b) (sym (before_is a b) ∙ is)

before : (a b : Pair) → pair_cmp a b ≡ Less → is_pair_before a b ≡ true
before a b is = before_is a b ∙ ap is_lt is

not_back : (a b : Pair) → pair_cmp a b ≡ Less → is_pair_before b a ≡ false
not_back a b is = before_is b a ∙ ap is_lt (total.antisymm b a ∙ ap ordering_reverse is)

all_put : (Q : Pair → Type 0) (p : Pair) (l : List Pair) → Q p → AllByRecursion Q l
    → AllByRecursion Q (put_pair p l)
all_put Q p [] new all = (new, tt)
all_put Q p (o ∷ os) new all = grind (arith, nat_tests, all_put Q p os new all.1)

all_past : (p o : Pair) (l : List Pair) → pair_cmp p o ≡ Less
    → AllByRecursion (λ y. pair_cmp o y ≡ Less) l → AllByRecursion (λ y. pair_cmp p y ≡ Less) l
all_past p o [] up all = tt
all_past p o (x ∷ xs) up all = (total.trans p o x up all.0, all_past p o xs up all.1)

all_filter : (Q : Pair → Type 0) (t : Pair → Bool) (l : List Pair) → AllByRecursion Q l
    → AllByRecursion Q (filter t l)
all_filter Q t [] all = tt
all_filter Q t (x ∷ xs) all = grind (arith, nat_tests, all_filter Q t xs all.1)

-- one more pair at its place
pub put_sorted : (p : Pair) (l : List Pair) → IsStrictlySortedBy pair_cmp l
    → IsStrictlySortedBy pair_cmp (put_pair p l)
unfolding IsStrictlySortedBy
put_sorted p [] sorted = (tt, tt)
put_sorted p (o ∷ os) sorted = elim (cases_Bool (is_pair_before o p)) [
  | inl is ↦
      subst (IsStrictlySortedBy pair_cmp) (sym (cond-true _ (o ∷ put_pair p os) _ is))
      (all_put (λ y. pair_cmp o y ≡ Less) p os (less o p is) sorted.0, put_sorted p os sorted.1)
  | inr isnt ↦
      subst (IsStrictlySortedBy pair_cmp) (sym (cond-false _ (o ∷ put_pair p os) _ isnt))
      (elim (cases_Bool (is_pair_before p o)) [
        | inl back ↦
            subst (IsStrictlySortedBy pair_cmp) (sym (cond-true _ (p ∷ o ∷ os) (o ∷ os) back))
            ((less p o back, all_past p o os (less p o back) sorted.0), sorted)
        | inr same ↦
            subst (IsStrictlySortedBy pair_cmp)
            (sym (cond-false _ (p ∷ o ∷ os) (o ∷ os) same)) sorted
      ])
]

pub filter_sorted : (t : Pair → Bool) (l : List Pair) → IsStrictlySortedBy pair_cmp l
    → IsStrictlySortedBy pair_cmp (filter t l)
unfolding IsStrictlySortedBy
filter_sorted t [] sorted = tt
filter_sorted t (x ∷ xs) sorted = elim (cases_Bool (t x)) [
  | inl is ↦
      subst (IsStrictlySortedBy pair_cmp) (sym (cond-true _ (x ∷ filter t xs) _ is))
      (all_filter (λ y. pair_cmp x y ≡ Less) t xs sorted.0, filter_sorted t xs sorted.1)
  | inr isnt ↦
      subst (IsStrictlySortedBy pair_cmp) (sym (cond-false _ (x ∷ filter t xs) _ isnt))
      (filter_sorted t xs sorted.1)
]

put_first : (p : Pair) (l : List Pair) → AllByRecursion (λ y. pair_cmp p y ≡ Less) l
    → put_pair p l ≡ p ∷ l
put_first p [] all = refl
put_first p (o ∷ os) all =
    cond-false _ _ _ (not_back p o all.0) ∙ cond-true _ (p ∷ o ∷ os) (o ∷ os) (before p o all.0)

-- pairs in order are the set of them
pub sorted_set : (l : List Pair) → IsStrictlySortedBy pair_cmp l → set_of l ≡ l
unfolding IsStrictlySortedBy
sorted_set [] sorted = refl
sorted_set (p ∷ l) sorted = ap (put_pair p) (sorted_set l sorted.1) ∙ put_first p l sorted.0

pub empty_sorted : IsStrictlySortedBy pair_cmp []
unfolding IsStrictlySortedBy
empty_sorted = tt

-- ---- by place

neither : (p o : Pair) → is_pair_before o p ≡ false → is_same_pair p o ≡ false
    → is_pair_before p o ≡ true
neither p o before_not same_not =
    before_is p o ∙ ap is_lt (total.antisymm p o) ∙ by (pair_cmp o p) refl
  where
    equal : (x y : Ordering) → ordering_then x y ≡ Equal → (x ≡ Equal) × (y ≡ Equal)
    equal Less y e = absurd (true≢false (sym (ap is_eq e)))
    equal Equal y e = (refl, e)
    equal Greater y e = absurd (true≢false (sym (ap is_eq e)))

    by : (r : Ordering) → pair_cmp o p ≡ r → is_lt (ordering_reverse (pair_cmp o p)) ≡ true
    by Less e = absurd (true≢false (sym (before o p e) ∙ before_not))
    by Equal e =
        let parts = equal (slice_cmp nat_cmp o.0 p.0) (slice_cmp nat_cmp o.1 p.1) e in
        absurd
        (true≢false
        (sym (and_from (same_text o.0 p.0) (same_text o.1 p.1)
        (sym (is_eq-slice_cmp o.0 p.0) ∙ ap is_eq parts.0)
        (sym (is_eq-slice_cmp o.1 p.1) ∙ ap is_eq parts.1)) ∙ same_not))
    by Greater e = ap (λ r. is_lt (ordering_reverse r)) e

itself : (p : Pair) → is_pair_before p p ≡ false
itself p = grind (arith, nat_tests, less, not_back)

pub put_in_place : (p : Pair) (l : List Pair) (k : ℕ) → k < length l
    → take k l ++ put_pair p (drop k l) ≡ put_pair p l → is_pair_before (get_or l k p) p ≡ false
    → is_same_pair p (get_or l k p) ≡ false → insert l k p ≡ put_pair p l
put_in_place p l k below puts stops other =
    search (rules, p, drop-cons, below, cond-false, stops, cond-true, neither, other, puts)

-- a pair that is there already
pub put_there : (p : Pair) (l : List Pair) (k : ℕ) → k < length l
    → take k l ++ put_pair p (drop k l) ≡ put_pair p l → is_pair_before (get_or l k p) p ≡ false
    → is_same_pair p (get_or l k p) ≡ true → l ≡ put_pair p l
put_there p l k below puts stops same =
    let step : drop k l ≡ get_or l k p ∷ drop (suc k) l = drop-cons l k p below in
    let parts = and_parts (same_text (get_or l k p).0 p.0) (same_text (get_or l k p).1 p.1) same in
    let is : get_or l k p ≡ p = search (rules, same_text-true, p, p.0, parts.0, p.1, parts.1) in
    search (rules, p, is, itself, step, cond-false, stops, take-append-drop, puts)

-- a pair that comes after all others
pub put_last : (p : Pair) (l : List Pair) (k : ℕ) → length l ≤ k
    → take k l ++ put_pair p (drop k l) ≡ put_pair p l → insert l k p ≡ put_pair p l
put_last p l k past puts = grind (arith, nat_tests, drop_all)

pub joined : (p : Pair) (l : List Pair) → IsStrictlySortedBy pair_cmp l
    → put_pair p l ≡ set_of (p ∷ l)
joined p l sorted = ap (put_pair p) (sym (sorted_set l sorted))

-- an item within the list doesn't depend on the default for a missing one
pub item_is : (l : List Pair) (k : ℕ) (x d : Pair) → k < length l → x ≡ get_or l k x
    → x ≡ get_or l k d
item_is l k x d below is = is ∙ get_or_default l k x d below
