-- What holds of each member of a list, and how many members pass a test.
use Rattle.std.proofs.Common.{◌≡◌, ℕ, ◌+◌, ◌≤◌, Bool, true, false, cond, not, List, [], ◌∷◌, ◌++◌}
use Rattle.std.proofs.Common.{filter, reverse, length, Some, refl, sym, ap, subst, ◌∙◌, arith}
use Rattle.std.proofs.{Common.add_assoc, lemmas.List.reverse-append}
use Rattle.std.specs.{List.{find, flat_map, AllByRecursion as Each}, Option.option_map_or}
use Rattle.room_entry.proofs.Facts.Members.{each_append, each_weaker, one_if, count}

-- ---- each member

pub each_always : {A : Type 0} (P : A → Type 0) → ((x : A) → P x) → (xs : List A) → Each P xs
each_always P always [] = tt
each_always P always (x ∷ xs) = (always x, each_always P always xs)

pub each_last : {A : Type 0} (P : A → Type 0) (xs : List A) (y : A) → Each P (xs ++ y ∷ []) → P y
each_last P [] y all = all.0
each_last P (x ∷ xs) y all = each_last P xs y all.1

pub each_reverse : {A : Type 0} (P : A → Type 0) (xs : List A) → Each P xs → Each P (reverse xs)
each_reverse P [] all = tt
each_reverse P (x ∷ xs) all =
    subst (Each P) (sym (reverse-append (x ∷ []) xs))
    (each_append P (reverse xs) (x ∷ []) (each_reverse P xs all.1) (all.0, tt))

pub each_both : {A : Type 0} (P Q R : A → Type 0) → ((x : A) → P x → Q x → R x) → (xs : List A)
    → Each P xs → Each Q xs → Each R xs
each_both P Q R joins [] all more = tt
each_both P Q R joins (x ∷ xs) all more =
    (joins x all.0 more.0, each_both P Q R joins xs all.1 more.1)

pub each_filter : {A : Type 0} (P : A → Type 0) (q : A → Bool) (xs : List A) → Each P xs
    → Each P (filter q xs)
each_filter P q [] all = tt
each_filter P q (x ∷ xs) all = on (q x) all.0 (each_filter P q xs all.1)
  where
    on : (t : Bool) → P x → Each P (filter q xs) → Each P (cond t (x ∷ filter q xs) (filter q xs))
    on true here rest = (here, rest)
    on false here rest = rest

pub each_found : {A : Type 0} (P : A → Type 0) (p : A → Bool) (xs : List A) (x : A) → Each P xs
    → find p xs ≡ Some x → P x
each_found P p [] x all found = absurd (let wrong : ⊥ = cc in wrong)
each_found P p (y ∷ ys) x all found = on (p y) found (each_found P p ys x all.1)
  where
    on : (t : Bool) → cond t (Some y) (find p ys) ≡ Some x → (find p ys ≡ Some x → P x) → P x
    on true is later = subst P (ap (λ o. option_map_or (λ z. z) o y) is) all.0
    on false is later = later is

-- ---- counts

-- sums of plain numbers
same_behind : (a b c : ℕ) → a ≡ b → a + (c + 0) ≡ c + b
same_behind a b c e = omega (arith, e)

after_one : (a b c d : ℕ) → b + c ≡ d → a + b + c ≡ a + d
after_one a b c d e = omega (arith, e)

before_one : (a b c d : ℕ) → b + c ≡ d → b + (a + c) ≡ a + d
before_one a b c d e = omega (arith, e)

no_less : (a b : ℕ) → a + 0 ≤ a + b
no_less a b = omega arith

one_more : (a b c : ℕ) → a ≤ b → a ≤ c + b
one_more a b c e = omega (arith, e)

kept_one : (a b c : ℕ) → a ≤ b → c + a ≤ c + b
kept_one a b c e = omega (arith, e)

first_one : (a b c : ℕ) → b ≤ c → (a + 0) + b ≤ a + c
first_one a b c e = omega (arith, e)

later_one : (a b c d : ℕ) → a + b ≤ d → a + (c + b) ≤ c + d
later_one a b c d e = omega (arith, e)

pub count_append : {A : Type 0} (p : A → Bool) (xs ys : List A)
    → count p (xs ++ ys) ≡ count p xs + count p ys
count_append p [] ys = omega arith
count_append p (x ∷ xs) ys = grind (arith, one_if, p, add_assoc, count, count_append p xs ys)

pub count_reverse : {A : Type 0} (p : A → Bool) (xs : List A) → count p (reverse xs) ≡ count p xs
count_reverse p [] = refl
count_reverse p (x ∷ xs) =
    ap (count p) (reverse-append (x ∷ []) xs) ∙ count_append p (reverse xs) (x ∷ [])
    ∙ same_behind (count p (reverse xs)) (count p xs) (one_if (p x)) (count_reverse p xs)

-- those that pass another test, and those that fail it
pub count_parts : {A : Type 0} (p q : A → Bool) (xs : List A)
    → count p (filter q xs) + count p (filter (λ x. not (q x)) xs) ≡ count p xs
count_parts p q [] = omega arith
count_parts p q (x ∷ xs) = on (q x) (count_parts p q xs)
  where
    on : (t : Bool) → count p (filter q xs) + count p (filter (λ y. not (q y)) xs) ≡ count p xs
        → count p (cond t (x ∷ filter q xs) (filter q xs)) + count p
        (cond (not t) (x ∷ filter (λ y. not (q y)) xs) (filter (λ y. not (q y)) xs))
        ≡ one_if (p x) + count p xs
    on true rest =
        after_one (one_if (p x)) (count p (filter q xs)) (count p (filter (λ y. not (q y)) xs))
        (count p xs) rest
    on false rest =
        before_one (one_if (p x)) (count p (filter q xs)) (count p (filter (λ y. not (q y)) xs))
        (count p xs) rest

count_filter : {A : Type 0} (p q : A → Bool) (xs : List A) → count p (filter q xs) ≤ count p xs
count_filter p q [] = omega arith
count_filter p q (x ∷ xs) = on (q x) (count_filter p q xs)
  where
    on : (t : Bool) → count p (filter q xs) ≤ count p xs
        → count p (cond t (x ∷ filter q xs) (filter q xs)) ≤ one_if (p x) + count p xs
    on true rest = kept_one (count p (filter q xs)) (count p xs) (one_if (p x)) rest
    on false rest = one_more (count p (filter q xs)) (count p xs) (one_if (p x)) rest

-- what is found, and those that fail the test that found it
pub count_found : {A : Type 0} (p q : A → Bool) (xs : List A) (x : A) → find q xs ≡ Some x
    → count p (x ∷ []) + count p (filter (λ y. not (q y)) xs) ≤ count p xs
count_found p q [] x found = absurd (let wrong : ⊥ = cc in wrong)
count_found p q (y ∷ ys) x found =
    on (q y) found (count_found p q ys x) (count_filter p (λ z. not (q z)) ys)
  where
    on : (t : Bool) → cond t (Some y) (find q ys) ≡ Some x
        → (find q ys ≡ Some x
        → count p (x ∷ []) + count p (filter (λ z. not (q z)) ys) ≤ count p ys)
        → count p (filter (λ z. not (q z)) ys) ≤ count p ys
        → count p (x ∷ []) + count p
        (cond (not t) (y ∷ filter (λ z. not (q z)) ys) (filter (λ z. not (q z)) ys))
        ≤ one_if (p y) + count p ys
    on true is later less =
        subst (λ z. count p (z ∷ []) + count p (filter (λ z. not (q z)) ys)
        ≤ one_if (p y) + count p ys) (ap (λ o. option_map_or (λ z. z) o y) is)
        (first_one (one_if (p y)) (count p (filter (λ z. not (q z)) ys)) (count p ys) less)
    on false is later less =
        later_one (count p (x ∷ [])) (count p (filter (λ z. not (q z)) ys)) (one_if (p y))
        (count p ys) (later is)

-- each member is counted
pub each_counted : {A : Type 0} (xs : List A)
    → Each (λ x. (p : A → Bool) → count p (x ∷ []) ≤ count p xs) xs
each_counted [] = tt
each_counted {A} (x ∷ xs) = (
  λ p. no_less (one_if (p x)) (count p xs),
  grind (arith, each_weaker, count, one_more, one_if, each_counted xs),
)

-- where none is counted, none passes
pub none_counted : {A : Type 0} (p : A → Bool) (xs : List A) → count p xs ≤ 0
    → Each (λ x. p x ≡ false) xs
none_counted p [] none = tt
none_counted p (x ∷ xs) none = on (p x) refl none (λ rest. none_counted p xs rest)
  where
    on : (t : Bool) → p x ≡ t → one_if t + count p xs ≤ 0
        → (count p xs ≤ 0 → Each (λ y. p y ≡ false) xs) → (p x ≡ false) × Each (λ y. p y ≡ false) xs
    on true is none later = absurd (omega (arith, none))
    on false is none later = (is, later (omega (arith, none)))

pub count_all : {A : Type 0} (xs : List A) → count (λ _. true) xs ≡ length xs
count_all [] = refl
count_all (x ∷ xs) = let rest = count_all xs in omega (arith, rest)

-- ---- a test that implies another

pub same_flat : {A B : Type 0} (f g : A → List B) (xs : List A) → Each (λ x. f x ≡ g x) xs
    → flat_map f xs ≡ flat_map g xs
same_flat f g [] all = refl
same_flat f g (x ∷ xs) all =
    ap (λ l. l ++ flat_map f xs) all.0 ∙ ap (λ l. g x ++ l) (same_flat f g xs all.1)
