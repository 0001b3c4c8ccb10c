-- The rulings of the bits of a mask, one after the other.
use Rattle.std.proofs.Common.{◌≡◌, ℕ, zero, suc, ◌+◌, ◌<◌, List, [], ◌∷◌, ◌++◌, map, length, get_or}
use Rattle.std.proofs.Common.{drop, refl, ap, arith, add-one, drop-cons, append_assoc}
use Rattle.std.proofs.lemmas.Bool.Decides.{nat_tests}

length_kept : (mask : List ℕ) → length (map (λ (bit : ℕ). bit ∷ []) mask) ≡ length mask
length_kept [] = refl
length_kept (bit ∷ mask) = ap suc (length_kept mask)

single_at : (mask : List ℕ) (i : ℕ) (other : List ℕ) → i < length mask
    → get_or (map (λ (bit : ℕ). bit ∷ []) mask) i other ≡ get_or mask i 0 ∷ []
single_at [] i other below = absurd (omega arith)
single_at (bit ∷ mask) zero other below = refl
single_at (bit ∷ mask) (suc i) other below = single_at mask i other (omega arith)

-- one of the masks of a mask's bits
pub record IsAsked (mask : List ℕ) (i : ℕ) (bit : List ℕ) : Type 0 where
  pub below : i < length mask
  pub alone : bit ≡ get_or mask i 0 ∷ []

pub is_asked : (mask : List ℕ) (bits : List (List ℕ)) (i : ℕ) (bit : List ℕ)
    → bits ≡ map (λ (b : ℕ). b ∷ []) mask → i < length bits → bit ≡ get_or bits i bit
    → IsAsked mask i bit
is_asked mask bits i bit are below is = grind (arith, nat_tests, length_kept, single_at)

-- a turn that adds what the bit is paired with
pub asked_more : {A : Type 0} (f : ℕ → A) (mask : List ℕ) (i : ℕ) (items new : List A)
    → i < length mask → new ≡ items ++ f (get_or mask i 0) ∷ []
    → new ++ map f (drop (i + 1) mask) ≡ items ++ map f (drop i mask)
asked_more f mask i items new below more =
    grind (arith, nat_tests, add-one, drop-cons, below, more, append_assoc)
