-- A way to an object, as a caller finds it.
use Rattle.std.proofs.Common.{ℕ, suc, ◌-◌, ◌≡◌, List, [], ◌∷◌, ◌++◌, map, length, take}
use Rattle.std.proofs.Common.{Option, Some, None, refl, sym, ap, ◌∙◌, arith, Bor, ◌<◌, ◌≤◌, get_or}
use Rattle.std.proofs.lemmas.{List.{length-map, take-map}, Option.{slice_get_past, slice_get_read}}
use Rattle.std.specs.Option.{option_map, option_map_or, IfSome, MatchOption, option_copied}
use Rattle.std.specs.List.{slice_get}
use Rattle.room_machine.specs.{Site.Site, Rights.last_of}
use Rattle.room_review.specs.Standing.{before_last}

-- ---- options

pub map_twice : {A B C : Type 0} (f : A → B) (g : B → C) (o : Option A)
    → option_map g (option_map f o) ≡ option_map (λ x. g (f x)) o
map_twice f g None = refl
map_twice f g (Some x) = refl

pub or_mapped : {A B C : Type 0} (f : A → B) (g : B → C) (none : C) (o : Option A)
    → option_map_or g (option_map f o) none ≡ option_map_or (λ x. g (f x)) o none
or_mapped f g none None = refl
or_mapped f g none (Some x) = refl

-- ---- the last object on a way

pub last_map : (f : Site → Site) (sites : List Site)
    → last_of (map f sites) ≡ option_map f (last_of sites)
last_map f [] = refl
last_map f (site ∷ []) = refl
last_map f (site ∷ next ∷ more) = last_map f (next ∷ more)

pub before_map : (f : Site → Site) (sites : List Site)
    → before_last (map f sites) ≡ map f (before_last sites)
before_map f sites =
    ap (λ n. take (n - 1) (map f sites)) (length-map sites f) ∙ take-map f (length sites - 1) sites

pub last_joined : (above : List Site) (folder : Site) → last_of above ≡ Some folder
    → before_last above ++ folder ∷ [] ≡ above
last_joined [] folder last = absurd (let wrong : ⊥ = cc in wrong)
last_joined (site ∷ []) folder last =
    let same : folder ≡ site = cc in ap (λ (s : Site). s ∷ []) same
last_joined (site ∷ next ∷ more) folder last =
    let count : length (site ∷ next ∷ more) - 1 ≡ suc (length (next ∷ more) - 1) = omega arith in
    ap (λ n. take n (site ∷ next ∷ more) ++ folder ∷ []) count
    ∙ ap (λ (sites : List Site). site ∷ sites) (last_joined (next ∷ more) folder last)

-- ---- what is looked up

-- the element at a place of a slice
pub got : {X : Type 0} (r : Option (Bor X)) (xs : List X) (i : ℕ) (Q : Bor X → Type 0)
    → IfSome r (λ x. x.now ≡ get_or xs i x.now)
    → MatchOption r (length xs ≤ i) (λ x. (i < length xs) × Q x)
    → option_copied r ≡ slice_get xs i
got None xs i Q is at = sym (slice_get_past xs i at)
got (Some x) xs i Q is at = sym (slice_get_read xs (length xs) i x.now refl at.0 is)
