-- The front that two paths have in common.
use Rattle.std.proofs.Common.{◌≡◌, ℕ, ◌+◌, ◌≤◌, List, [], ◌∷◌, drop, length, refl, ap, arith, ◌∙◌}
use Rattle.std.proofs.lemmas.List.{drop_all}
use Rattle.room_would.specs.Paths.{shared_count}

-- with nothing the front is empty
shared_none : (xs : List (List ℕ)) → shared_count xs [] ≡ 0
shared_none [] = refl
shared_none (x ∷ xs) = refl

-- the names so far are all that are shared: the other path ends
pub shared_to_end : (xs ys : List (List ℕ)) (i : ℕ) → length ys ≤ i
    → i + shared_count (drop i xs) (drop i ys) ≡ shared_count xs ys → i ≡ shared_count xs ys
shared_to_end xs ys i past sofar =
    let rest : shared_count (drop i xs) (drop i ys) ≡ 0 =
    ap (shared_count (drop i xs)) (drop_all i ys past) ∙ shared_none (drop i xs) in
    omega (arith, rest, sofar)
