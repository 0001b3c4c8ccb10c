-- Pairs of group and user in order.
use Rattle.std.proofs.Common.{◌≡◌, ℕ, ◌&&◌, ◌||◌, Bool, true, false, List, [], ◌∷◌, filter, refl}
use Rattle.std.proofs.Common.{sym, ap, subst, ◌∙◌, inl, inr}
use Rattle.std.specs.Cmp.{IsTotalOrder}
use Rattle.std.specs.Cmp.Lexicographic.{slice_cmp}
use Rattle.std.specs.List.{AllByRecursion}
use Rattle.std.specs.List.Sorted.{IsStrictlySortedBy}
use Rattle.std.specs.Ordering.{nat_cmp, ordering_then, ordering_reverse, is_lt, is_eq}
use Rattle.std.specs.declared.cmp.Ordering.{Ordering}
use Rattle.std.specs.declared.cmp.Ordering.TheVariants.{Less, Equal, Greater}
use Rattle.std.proofs.lemmas.Bool.{cases_Bool, false≢true, cond-true, cond-false}
use Rattle.std.proofs.lemmas.Cmp.{nat_list_cmp_total, on_total, then_total}
use Rattle.std.proofs.lemmas.Map.Text.{is_eq-slice_cmp}
use Rattle.room_entry.specs.Pieces.{same_text}
use Rattle.room_rows.specs.Content.{is_before, is_pair_before, put_pair, set_of}

abbrev pub Pair : Type 0
Pair = List ℕ × List ℕ

-- by group, then by user
abbrev pub pair_cmp : Pair → Pair → Ordering
pair_cmp a b = ordering_then (slice_cmp nat_cmp a.0 b.0) (slice_cmp nat_cmp a.1 b.1)

pub total : IsTotalOrder pair_cmp
total = then_total (on_total (λ (p : Pair). p.0) nat_list_cmp_total)
    (on_total (λ (p : Pair). p.1) nat_list_cmp_total)

-- what comes before by group, then user
pub before_is : (a b : Pair) → is_pair_before a b ≡ is_lt (pair_cmp a b)
before_is a b = by (slice_cmp nat_cmp a.0 b.0) refl
  where
    by : (o : Ordering) → slice_cmp nat_cmp a.0 b.0 ≡ o
        → (is_lt (slice_cmp nat_cmp a.0 b.0) || (same_text a.0 b.0 && is_before a.1 b.1)) ≡ is_lt
        (ordering_then (slice_cmp nat_cmp a.0 b.0) (slice_cmp nat_cmp a.1 b.1))
    by Less e = ap (λ o. is_lt o || (same_text a.0 b.0 && is_before a.1 b.1)) e
        ∙ sym (ap (λ o. is_lt (ordering_then o (slice_cmp nat_cmp a.1 b.1))) e)
    by Equal e = ap (λ o. is_lt o || (same_text a.0 b.0 && is_before a.1 b.1)) e
        ∙ ap (λ t. t && is_before a.1 b.1) (sym (is_eq-slice_cmp a.0 b.0) ∙ ap is_eq e)
        ∙ sym (ap (λ o. is_lt (ordering_then o (slice_cmp nat_cmp a.1 b.1))) e)
    by Greater e = ap (λ o. is_lt o || (same_text a.0 b.0 && is_before a.1 b.1)) e
        ∙ ap (λ t. t && is_before a.1 b.1) (sym (is_eq-slice_cmp a.0 b.0) ∙ ap is_eq e)
        ∙ sym (ap (λ o. is_lt (ordering_then o (slice_cmp nat_cmp a.1 b.1))) e)

less_is : (o : Ordering) → is_lt o ≡ true → o ≡ Less
less_is Less is = refl
less_is Equal is = absurd (false≢true is)
less_is Greater is = absurd (false≢true is)

less : (a b : Pair) → is_pair_before a b ≡ true → pair_cmp a b ≡ Less
less a b is = less_is (pair_cmp a b) (sym (before_is a b) ∙ is)

pub before : (a b : Pair) → pair_cmp a b ≡ Less → is_pair_before a b ≡ true
before a b is = before_is a b ∙ ap is_lt is

pub not_back : (a b : Pair) → pair_cmp a b ≡ Less → is_pair_before b a ≡ false
not_back a b is = before_is b a ∙ ap is_lt (total.antisymm b a ∙ ap ordering_reverse is)

all_put : (Q : Pair → Type 0) (p : Pair) (l : List Pair) → Q p → AllByRecursion Q l
    → AllByRecursion Q (put_pair p l)
all_put Q p [] new all = (new, tt)
all_put Q p (o ∷ os) new all = elim (cases_Bool (is_pair_before o p)) [
  | inl is ↦ subst (AllByRecursion Q) (sym (cond-true _ (o ∷ put_pair p os) _ is))
      (all.0, all_put Q p os new all.1)
  | inr isnt ↦ subst (AllByRecursion Q) (sym (cond-false _ (o ∷ put_pair p os) _ isnt))
      (elim (cases_Bool (is_pair_before p o)) [
        | inl back ↦ subst (AllByRecursion Q) (sym (cond-true _ (p ∷ o ∷ os) (o ∷ os) back))
            (new, all)
        | inr same ↦ subst (AllByRecursion Q) (sym (cond-false _ (p ∷ o ∷ os) (o ∷ os) same)) all
      ])
]

pub all_past : (p o : Pair) (l : List Pair) → pair_cmp p o ≡ Less
    → AllByRecursion (λ y. pair_cmp o y ≡ Less) l → AllByRecursion (λ y. pair_cmp p y ≡ Less) l
all_past p o [] up all = tt
all_past p o (x ∷ xs) up all = (total.trans p o x up all.0, all_past p o xs up all.1)

pub all_filter : (Q : Pair → Type 0) (t : Pair → Bool) (l : List Pair) → AllByRecursion Q l
    → AllByRecursion Q (filter t l)
all_filter Q t [] all = tt
all_filter Q t (x ∷ xs) all = elim (cases_Bool (t x)) [
  | inl is ↦ subst (AllByRecursion Q) (sym (cond-true _ (x ∷ filter t xs) _ is))
      (all.0, all_filter Q t xs all.1)
  | inr isnt ↦ subst (AllByRecursion Q) (sym (cond-false _ (x ∷ filter t xs) _ isnt))
      (all_filter Q t xs all.1)
]

-- one more pair at its place
pub put_sorted : (p : Pair) (l : List Pair) → IsStrictlySortedBy pair_cmp l
    → IsStrictlySortedBy pair_cmp (put_pair p l)
unfolding IsStrictlySortedBy
put_sorted p [] sorted = (tt, tt)
put_sorted p (o ∷ os) sorted = elim (cases_Bool (is_pair_before o p)) [
  | inl is ↦ subst (IsStrictlySortedBy pair_cmp) (sym (cond-true _ (o ∷ put_pair p os) _ is))
      (all_put (λ y. pair_cmp o y ≡ Less) p os (less o p is) sorted.0, put_sorted p os sorted.1)
  | inr isnt ↦ subst (IsStrictlySortedBy pair_cmp) (sym (cond-false _ (o ∷ put_pair p os) _ isnt))
      (elim (cases_Bool (is_pair_before p o)) [
        | inl back ↦ subst (IsStrictlySortedBy pair_cmp)
            (sym (cond-true _ (p ∷ o ∷ os) (o ∷ os) back))
            ((less p o back, all_past p o os (less p o back) sorted.0), sorted)
        | inr same ↦ subst (IsStrictlySortedBy pair_cmp)
            (sym (cond-false _ (p ∷ o ∷ os) (o ∷ os) same))
            sorted
      ])
]

pub filter_sorted : (t : Pair → Bool) (l : List Pair) → IsStrictlySortedBy pair_cmp l
    → IsStrictlySortedBy pair_cmp (filter t l)
unfolding IsStrictlySortedBy
filter_sorted t [] sorted = tt
filter_sorted t (x ∷ xs) sorted = elim (cases_Bool (t x)) [
  | inl is ↦ subst (IsStrictlySortedBy pair_cmp) (sym (cond-true _ (x ∷ filter t xs) _ is))
      (all_filter (λ y. pair_cmp x y ≡ Less) t xs sorted.0, filter_sorted t xs sorted.1)
  | inr isnt ↦ subst (IsStrictlySortedBy pair_cmp) (sym (cond-false _ (x ∷ filter t xs) _ isnt))
      (filter_sorted t xs sorted.1)
]

pub put_first : (p : Pair) (l : List Pair) → AllByRecursion (λ y. pair_cmp p y ≡ Less) l
    → put_pair p l ≡ p ∷ l
put_first p [] all = refl
put_first p (o ∷ os) all = cond-false _ _ _ (not_back p o all.0) ∙ cond-true _ (p ∷ o ∷ os) (o ∷ os)
    (before p o all.0)

-- pairs in order are the set of them
pub sorted_set : (l : List Pair) → IsStrictlySortedBy pair_cmp l → set_of l ≡ l
unfolding IsStrictlySortedBy
sorted_set [] sorted = refl
sorted_set (p ∷ l) sorted = ap (put_pair p) (sorted_set l sorted.1) ∙ put_first p l sorted.0

pub empty_sorted : IsStrictlySortedBy pair_cmp []
unfolding IsStrictlySortedBy
empty_sorted = tt
