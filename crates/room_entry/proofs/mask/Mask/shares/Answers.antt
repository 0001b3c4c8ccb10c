use Rattle.std.proofs.Common.{arith, ℕ, ◌≡◌, Bool, true, false, cond, not, ◌||◌, List, [], ◌∷◌}
use Rattle.std.{proofs.Common.{filter, IsTrue, refl, ap}, specs.List.list_any}
use Rattle.room_entry.proofs.mask.Mask.shares.Goals as goal

-- a filter leaves nothing exactly where no element passes
empty_or_any : (t : ℕ → Bool) (xs : List ℕ) (e : Bool) → (IsTrue e → filter t xs ≡ [])
    → (filter t xs ≡ [] → IsTrue e) → not e ≡ list_any t xs
empty_or_any t [] e none some = ap not (some refl)
empty_or_any t (x ∷ xs) e none some = on (t x) e none some (λ e' n s. empty_or_any t xs e' n s)
  where
    on : (h e : Bool) → (IsTrue e → cond h (x ∷ filter t xs) (filter t xs) ≡ [])
        → (cond h (x ∷ filter t xs) (filter t xs) ≡ [] → IsTrue e)
        → ((e : Bool) → (IsTrue e → filter t xs ≡ []) → (filter t xs ≡ [] → IsTrue e)
        → not e ≡ list_any t xs) → not e ≡ (h || list_any t xs)
    on true true none some rest = let wrong = none refl in cc
    on true false none some rest = refl
    on false e none some rest = rest e none some

pub returns : goal.returns
returns c =
    grind (arith, empty_or_any, c.shared_with.ensures, c.is_empty.ensures.0, c.is_empty.ensures.1)
