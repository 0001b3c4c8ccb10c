-- The first object that fails a test, one place after the other.
use Rattle.std.proofs.Common.{◌≡◌, ℕ, ◌<◌, ◌+◌, Bool, true, false, not, List, ◌∷◌, Some, length}
use Rattle.std.proofs.{Common.{get_or, drop, sym, ap, ◌∙◌}, lemmas.Bool.{cond-true, cond-false}}
use Rattle.std.{proofs.lemmas.List.drop_more, specs.List.find}

module _ {X : Type 0} (test : X → Bool) (xs : List X) (i : ℕ) (x : X) (below : i < length xs)
    (is : x ≡ get_or xs i x) where
  next : drop i xs ≡ x ∷ drop (i + 1) xs
  next = drop_more xs i x below ∙ ap (λ y. y ∷ drop (i + 1) xs) (sym is)

  pub fails_here : test x ≡ false → find (λ y. not (test y)) (drop i xs) ≡ Some x
  fails_here fails = ap (find (λ y. not (test y))) next ∙ cond-true _ _ _ (ap not fails)

  pub passes_here : test x ≡ true
      → find (λ y. not (test y)) (drop (i + 1) xs) ≡ find (λ y. not (test y)) (drop i xs)
  passes_here passes = sym (ap (find (λ y. not (test y))) next ∙ cond-false _ _ _ (ap not passes))
