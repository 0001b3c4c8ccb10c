-- What a test passes of a list, and what another test that follows from it does.
use Rattle.std.proofs.Common.{◌≡◌, Bool, true, List, [], ◌∷◌, filter, refl, ap, arith}
use Rattle.std.{proofs.lemmas.Bool.{and_parts, and_from, Decides.nat_tests}, specs.List.list_all}

-- where each member passes a test, each passes any that follows from it
pub all_implied : {X : Type 0} (p q : X → Bool) → ((x : X) → p x ≡ true → q x ≡ true)
    → (xs : List X) → list_all p xs ≡ true → list_all q xs ≡ true
all_implied p q implies [] all = refl
all_implied p q implies (x ∷ xs) all = let parts = and_parts (p x) (list_all p xs) all in
    and_from (q x) (list_all q xs) (implies x parts.0) (all_implied p q implies xs parts.1)

-- a test that each member passes keeps all
pub filter_all : {X : Type 0} (xs : List X) → filter (λ _. true) xs ≡ xs
filter_all [] = refl
filter_all (x ∷ xs) = ap (λ ys. x ∷ ys) (filter_all xs)

-- tests that agree keep the same
pub filter_same : {X : Type 0} (p q : X → Bool) → ((x : X) → p x ≡ q x) → (xs : List X)
    → filter p xs ≡ filter q xs
filter_same p q same [] = refl
filter_same p q same (x ∷ xs) = grind (arith, nat_tests, filter_same p q same xs)

-- a filter by a test after one by a weaker test keeps what the first alone keeps
pub filter_weaker : {X : Type 0} (p q : X → Bool) → ((x : X) → p x ≡ true → q x ≡ true)
    → (xs : List X) → filter p (filter q xs) ≡ filter p xs
filter_weaker p q weaker [] = refl
filter_weaker p q weaker (x ∷ xs) = grind (arith, nat_tests, filter_weaker p q weaker xs)
