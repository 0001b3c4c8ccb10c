-- The set of pairs doesn't depend on the order in which they come.
use Rattle.std.proofs.Common.{◌≡◌, List, [], ◌∷◌, Bool, true, false, refl, sym, ap, subst, ◌∙◌}
use Rattle.std.proofs.Common.{Ordering, Less, Equal, Greater, is_lt, is_eq, IsPermutation}
use Rattle.std.proofs.lemmas.{Bool.{cond-true, cond-false, false≢true}, Cmp.tied_itself}
use Rattle.std.{proofs.lemmas.List.Sorted.list_any-IsPermutation, specs.Prelude.◌||◌}
use Rattle.std.specs.List.{AllByRecursion, list_any, Sorted.IsStrictlySortedBy}
use Rattle.std.specs.Ordering.{ordering_reverse}
use Rattle.room_rows.specs.Content.{put_pair, set_of}
use Rattle.store_tables.specs.Paired.{Pair, all_past, before, before_is, not_back, pair_cmp, total}
use Rattle.store_tables.{specs.RoomRows.set_sorted, proofs.Grouped.equal_pairs}

-- ---- pairs that compare as equal are equal

itself : (p : Pair) → pair_cmp p p ≡ Equal
itself p = tied_itself total p

-- ---- whether a pair is among others

abbrev pub is_at : Pair → Pair → Bool
is_at x o = is_eq (pair_cmp o x)

abbrev pub has : Pair → List Pair → Bool
has x l = list_any (is_at x) l

pub or_swap : (a b c : Bool) → a || (b || c) ≡ b || (a || c)
or_swap true true c = refl
or_swap true false c = refl
or_swap false true c = refl
or_swap false false c = refl

or_twice : (a c : Bool) → a || c ≡ a || (a || c)
or_twice true c = refl
or_twice false c = refl

has_put : (x p : Pair) (l : List Pair) → has x (put_pair p l) ≡ is_at x p || has x l
has_put x p [] = refl
has_put x p (o ∷ os) = by (pair_cmp o p) refl (has_put x p os)
  where
    by : (c : Ordering) → pair_cmp o p ≡ c → has x (put_pair p os) ≡ is_at x p || has x os
        → has x (put_pair p (o ∷ os)) ≡ is_at x p || has x (o ∷ os)
    by Less e more =
        ap (has x) (cond-true _ (o ∷ put_pair p os) _ (before o p e))
        ∙ ap (λ b. is_at x o || b) more ∙ or_swap (is_at x o) (is_at x p) (has x os)
    by Equal e more =
        let there : put_pair p (o ∷ os) ≡ o ∷ os =
        cond-false _ (o ∷ put_pair p os) _ (before_is o p ∙ ap is_lt e)
        ∙ cond-false _ (p ∷ o ∷ os) (o ∷ os)
        (before_is p o ∙ ap is_lt (total.antisymm p o ∙ ap ordering_reverse e)) in
        ap (has x) there ∙ or_twice (is_at x o) (has x os)
        ∙ ap (λ q. is_at x q || has x (o ∷ os)) (equal_pairs p o e)
    by Greater e more =
        let up : pair_cmp p o ≡ Less = total.antisymm p o ∙ ap ordering_reverse e in
        ap (has x) (cond-false _ (o ∷ put_pair p os) _ (not_back p o up)
        ∙ cond-true _ (p ∷ o ∷ os) (o ∷ os) (before p o up))

pub has_set : (x : Pair) (l : List Pair) → has x (set_of l) ≡ has x l
has_set x [] = refl
has_set x (p ∷ l) = has_put x p (set_of l) ∙ ap (λ b. is_at x p || b) (has_set x l)

-- ---- pairs in order are known by what is among them

none_past : (x : Pair) (l : List Pair) → AllByRecursion (λ y. pair_cmp x y ≡ Less) l
    → has x l ≡ false
none_past x [] all = refl
none_past x (y ∷ l) all =
    ap (λ c. is_eq c || has x l) (total.antisymm y x ∙ ap ordering_reverse all.0)
    ∙ none_past x l all.1

pub has_first : (p : Pair) (l : List Pair) → has p (p ∷ l) ≡ true
has_first p l = ap (λ c. is_eq c || has p l) (itself p)

or_cancel : (a b c : Bool) → a ≡ false → a || b ≡ a || c → b ≡ c
or_cancel a b c is same = sym (ap (λ x. x || b) is) ∙ same ∙ ap (λ x. x || c) is

pub same_sets : (a b : List Pair) → IsStrictlySortedBy pair_cmp a → IsStrictlySortedBy pair_cmp b
    → ((x : Pair) → has x a ≡ has x b) → a ≡ b
unfolding IsStrictlySortedBy
same_sets [] [] up down same = refl
same_sets [] (q ∷ b) up down same = absurd (false≢true (same q ∙ has_first q b))
same_sets (p ∷ a) [] up down same = absurd (false≢true (sym (same p) ∙ has_first p a))
same_sets (p ∷ a) (q ∷ b) up down same = by (pair_cmp p q) refl (same_sets a b up.1 down.1)
  where
    by : (c : Ordering) → pair_cmp p q ≡ c → (((x : Pair) → has x a ≡ has x b) → a ≡ b)
        → p ∷ a ≡ q ∷ b
    by Less e more =
        absurd
        (false≢true (sym (none_past p (q ∷ b) (e, all_past p q b e down.0)) ∙ sym (same p)
        ∙ has_first p a))
    by Greater e more =
        let less : pair_cmp q p ≡ Less = total.antisymm q p ∙ ap ordering_reverse e in
        absurd
        (false≢true (sym (none_past q (p ∷ a) (less, all_past q p a less up.0)) ∙ same q
        ∙ has_first q b))
    by Equal e more =
        let head : p ≡ q = equal_pairs q p e in
        let past : AllByRecursion (λ y. pair_cmp p y ≡ Less) b = subst
        (λ z. AllByRecursion (λ y. pair_cmp z y ≡ Less) b) (sym head) down.0 in
        ap (λ z. z ∷ a) head ∙ ap (λ l. q ∷ l) (more (λ x. on x (pair_cmp p x) refl past))
      where
        on : (x : Pair) (c : Ordering) → pair_cmp p x ≡ c
            → AllByRecursion (λ y. pair_cmp p y ≡ Less) b → has x a ≡ has x b
        on x Less is past =
            or_cancel (is_at x p) (has x a) (has x b) (ap is_eq is)
            (same x ∙ ap (λ z. is_at x z || has x b) (sym (equal_pairs q p e)))
        on x Greater is past =
            or_cancel (is_at x p) (has x a) (has x b) (ap is_eq is)
            (same x ∙ ap (λ z. is_at x z || has x b) (sym (equal_pairs q p e)))
        on x Equal is past =
            let at : p ≡ x = equal_pairs x p is in
            subst (λ z. has z a ≡ has z b) at (none_past p a up.0 ∙ sym (none_past p b past))

pub set_moved : (a b : List Pair) → IsPermutation a b → set_of a ≡ set_of b
set_moved a b moved =
    same_sets (set_of a) (set_of b) (set_sorted a) (set_sorted b)
    (λ x. has_set x a ∙ list_any-IsPermutation (is_at x) a b moved ∙ sym (has_set x b))
