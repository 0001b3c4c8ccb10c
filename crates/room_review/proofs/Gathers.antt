-- Names that are gathered.
use Rattle.std.proofs.Common.{◌≡◌, ℕ, ◌||◌, Bool, true, false, List, [], ◌∷◌, ◌++◌, refl, take}
use Rattle.std.{proofs.{Common.arith, lemmas.Bool.Decides.nat_tests}, specs.List.flat_map}
use Rattle.room_review.specs.Users.{Gathers, is_listed}

or_assoc : (a b c : Bool) → (a || b) || c ≡ a || (b || c)
or_assoc true b c = refl
or_assoc false b c = refl

listed_on : (name : List ℕ) (xs ys : List (List ℕ))
    → is_listed name (xs ++ ys) ≡ is_listed name xs || is_listed name ys
listed_on name [] ys = refl
listed_on name (x ∷ xs) ys = grind (arith, nat_tests, or_assoc, listed_on name xs ys)

-- some names, and then more of them
pub gathers_on : (a b c xs ys : List (List ℕ)) → Gathers a xs b → Gathers b ys c
    → Gathers a (xs ++ ys) c
gathers_on a b c xs ys first then name = grind (arith, nat_tests, listed_on, or_assoc)

module _ {X : Type 0} (f : X → List (List ℕ)) (start : List (List ℕ)) (xs : List X) where
  -- the names of the first members of a list
  abbrev pub GathersFirst : ℕ → List (List ℕ) → Type 0
  GathersFirst i names = Gathers start (flat_map f (take i xs)) names
