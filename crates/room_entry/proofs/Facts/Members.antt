-- What holds of each member of a list, which tests some member passes, and how many pass.
-- `Each P xs` is the standard library's `AllByRecursion`.
use Rattle.std.proofs.Common.{◌≡◌, ◌+◌, ◌≤◌, Bool, true, false, cond, ◌&&◌, ◌||◌, List, [], ◌∷◌}
use Rattle.std.proofs.Common.{◌++◌, map, filter, length, refl, ap, ◌∙◌, arith}
use Rattle.std.proofs.lemmas.{List.Sums.sum_by-cons, Bool.{and_from, or_parts, or_from}}
use Rattle.std.proofs.lemmas.Bool.Decides.{nat_tests}
use Rattle.std.specs.{Prelude.count_by, List.{AllByRecursion as Each, list_any, list_all}}
pub use Rattle.room_entry.specs.Counted.{count, one_if}

-- what holds of each member of two lists holds of each of the two joined
pub each_append : {A : Type 0} (P : A → Type 0) (xs ys : List A) → Each P xs → Each P ys
    → Each P (xs ++ ys)
each_append P [] ys front back = back
each_append P (x ∷ xs) ys front back = (front.0, each_append P xs ys front.1 back)

-- what holds of each of two joined lists holds of each of the first, the front
pub each_front : {A : Type 0} (P : A → Type 0) (xs ys : List A) → Each P (xs ++ ys) → Each P xs
each_front P [] ys all = tt
each_front P (x ∷ xs) ys all = (all.0, each_front P xs ys all.1)

-- it also holds of each of the second, the back
pub each_back : {A : Type 0} (P : A → Type 0) (xs ys : List A) → Each P (xs ++ ys) → Each P ys
each_back P [] ys all = all
each_back P (x ∷ xs) ys all = each_back P xs ys all.1

-- what holds of f x for each member x holds of each member of the mapped list
pub each_map : {A B : Type 0} (P : A → Type 0) (f : B → A) (xs : List B) → Each (λ x. P (f x)) xs
    → Each P (map f xs)
each_map P f [] all = tt
each_map P f (x ∷ xs) all = (all.0, each_map P f xs all.1)

-- what follows from a fact of each member holds of each
pub each_weaker : {A : Type 0} (P Q : A → Type 0) → ((x : A) → P x → Q x) → (xs : List A)
    → Each P xs → Each Q xs
each_weaker P Q weaker [] all = tt
each_weaker P Q weaker (x ∷ xs) all = (weaker x all.0, each_weaker P Q weaker xs all.1)

-- what holds of each member that passes a test holds of each that is kept by the test
pub each_filter : {A : Type 0} (P : A → Type 0) (q : A → Bool) (xs : List A)
    → Each (λ x. q x ≡ true → P x) xs → Each P (filter q xs)
each_filter P q [] all = tt
each_filter P q (x ∷ xs) all = grind (arith, nat_tests, each_filter P q xs all.1)

-- the way back: what holds of each kept member holds of each that passes the test
pub each_unfiltered : {A : Type 0} (P : A → Type 0) (q : A → Bool) (xs : List A)
    → Each P (filter q xs) → Each (λ x. q x ≡ true → P x) xs
each_unfiltered P q [] all = tt
each_unfiltered P q (x ∷ xs) all = on (q x) refl (λ every. each_unfiltered P q xs every) all
  where
    on : (t : Bool) → q x ≡ t → (Each P (filter q xs) → Each (λ y. q y ≡ true → P y) xs)
        → Each P (cond t (x ∷ filter q xs) (filter q xs)) → (q x ≡ true → P x)
        × Each (λ y. q y ≡ true → P y) xs
    on true is rest every = (λ _. every.0, rest every.1)
    on false is rest every = (λ passes. absurd (let wrong : ⊥ = cc in wrong), rest every)

-- a list of length 0 is empty
pub no_length : {A : Type 0} (xs : List A) → length xs ≡ 0 → xs ≡ []
no_length [] none = refl
no_length (x ∷ xs) none = absurd (let wrong : ⊥ = omega (arith, none) in wrong)

-- those of changed ones that pass a test which the change leaves
pub filter_map : {A B : Type 0} (p : A → Bool) (q : B → Bool) (f : A → B)
    → ((x : A) → q (f x) ≡ p x) → (xs : List A) → filter q (map f xs) ≡ map f (filter p xs)
filter_map p q f same [] = refl
filter_map p q f same (x ∷ xs) = grind (arith, nat_tests, filter_map p q f same xs)

-- ---- tests

-- some kept member passes a test exactly if some member passes both tests
pub any_filter : {A : Type 0} (p q : A → Bool) (xs : List A)
    → list_any p (filter q xs) ≡ list_any (λ x. q x && p x) xs
any_filter p q [] = refl
any_filter p q (x ∷ xs) = grind (arith, nat_tests, any_filter p q xs)

-- some member of a mapped list passes p exactly if some member passes p after f
pub any_map : {A B : Type 0} (p : A → Bool) (f : B → A) (xs : List B)
    → list_any p (map f xs) ≡ list_any (λ x. p (f x)) xs
any_map p f [] = refl
any_map p f (x ∷ xs) = ap (λ r. p (f x) || r) (any_map p f xs)

-- where two tests agree on each member, some member passes the one exactly if one passes the other
pub any_agree : {A : Type 0} (p q : A → Bool) (xs : List A) → Each (λ x. p x ≡ q x) xs
    → list_any p xs ≡ list_any q xs
any_agree p q [] all = refl
any_agree p q (x ∷ xs) all =
    ap (λ t. t || list_any p xs) all.0 ∙ ap (λ r. q x || r) (any_agree p q xs all.1)

-- where each member fails a test, none passes it
pub any_none : {A : Type 0} (p : A → Bool) (xs : List A) → Each (λ x. p x ≡ false) xs
    → list_any p xs ≡ false
any_none p [] all = refl
any_none p (x ∷ xs) all = or_from (p x) (list_any p xs) all.0 (any_none p xs all.1)

-- where none passes a test, each member fails it
pub each_fails : {A : Type 0} (p : A → Bool) (xs : List A) → list_any p xs ≡ false
    → Each (λ x. p x ≡ false) xs
each_fails p [] none = tt
each_fails p (x ∷ xs) none = let parts = or_parts (p x) (list_any p xs) none in
    (parts.0, each_fails p xs parts.1)

-- none passes both tests if none passes one
pub none_of_both : {A : Type 0} (p q : A → Bool) (xs : List A) → list_any p xs ≡ false
    → list_any (λ x. q x && p x) xs ≡ false
none_of_both p q xs none = grind (arith, nat_tests, any_none, each_fails, each_weaker)

-- a test that no member passes is passed by none of those kept by another test
pub none_filter : {A : Type 0} (p q : A → Bool) (xs : List A) → list_any p xs ≡ false
    → list_any p (filter q xs) ≡ false
none_filter p q xs none = any_filter p q xs ∙ none_of_both p q xs none

-- where each member passes a test, the test of all of them is passed
pub all_each : {A : Type 0} (p : A → Bool) (xs : List A) → Each (λ x. p x ≡ true) xs
    → list_all p xs ≡ true
all_each p [] all = refl
all_each p (x ∷ xs) all = and_from (p x) (list_all p xs) all.0 (all_each p xs all.1)

-- ---- counts

-- it is the same number as the `count_by` of the contracts
pub count-is : {A : Type 0} (p : A → Bool) (xs : List A) → count_by p xs ≡ count p xs
count-is p [] = refl
count-is p (x ∷ xs) =
    sum_by-cons (λ y. cond (p y) 1 0) x xs ∙ ap (λ n. one_if (p x) + n) (count-is p xs)

-- as many members pass a test as are kept by it
pub count_length : {A : Type 0} (p : A → Bool) (xs : List A) → length (filter p xs) ≡ count p xs
count_length p [] = refl
count_length p (x ∷ xs) = grind (arith, nat_tests, count_length p xs)

-- as many kept members pass a second test as members of the whole list pass both
pub count_filter : {A : Type 0} (p q : A → Bool) (xs : List A)
    → count q (filter p xs) ≡ count (λ x. p x && q x) xs
count_filter p q [] = refl
count_filter p q (x ∷ xs) = grind (arith, nat_tests, count_filter p q xs)

-- as many members of a mapped list pass q as members pass q after f
pub count_map : {A B : Type 0} (q : A → Bool) (f : B → A) (xs : List B)
    → count q (map f xs) ≡ count (λ x. q (f x)) xs
count_map q f [] = refl
count_map q f (x ∷ xs) = ap (λ n. one_if (q (f x)) + n) (count_map q f xs)

-- where two tests agree on each member, as many pass the one as the other
pub count_agree : {A : Type 0} (p q : A → Bool) (xs : List A) → Each (λ x. p x ≡ q x) xs
    → count p xs ≡ count q xs
count_agree p q [] all = refl
count_agree p q (x ∷ xs) all =
    ap (λ t. one_if t + count p xs) all.0 ∙ ap (λ n. one_if (q x) + n) (count_agree p q xs all.1)

-- those that pass one of two tests, of which none passes both
pub count_either : {A : Type 0} (p q r : A → Bool) (xs : List A)
    → Each (λ x. (r x ≡ (p x || q x)) × (q x ≡ true → p x ≡ false)) xs
    → count r xs ≡ count p xs + count q xs
count_either p q r [] all = refl
count_either p q r (x ∷ xs) all = grind (arith, nat_tests, count_either p q r xs all.1)

-- no more members pass a test than there are
pub count_ends : {A : Type 0} (p : A → Bool) (xs : List A) → count p xs ≤ length xs
count_ends p [] = omega arith
count_ends p (x ∷ xs) = grind (arith, nat_tests, count_ends p xs)
