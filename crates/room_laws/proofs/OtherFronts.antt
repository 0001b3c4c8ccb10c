-- The same is seen outside of another front, where there is nothing behind this one.
use Rattle.std.proofs.Common.{ℕ, ◌≡◌, ◌⊎◌, inl, inr, List, ◌++◌, Option, Some, None, refl, sym, ◌∙◌}
use Rattle.std.{proofs.{Common.arith, lemmas.Bool.Decides.nat_tests}, specs.Option.option_map_or}
use Rattle.room_rows.specs.Content.{Content}
use Rattle.room_machine.specs.declared.request.Request.TheVariants.{Move}
use Rattle.room_laws.specs.{Laws.{front_done, rest_after}, Outside.{found, view, IsBehind}}
use Rattle.room_laws.{specs.Outside.SameOutside, proofs.Grown.found_append}
use Rattle.room_laws.proofs.{OnePlace.behind_or_not, Passing.rest_some}

-- the same is seen outside
pub record SeenAlike (g : List (List ℕ)) (c d : Content) : Type 0 where
  pub views : (q : List (List ℕ)) → (IsBehind g q → ⊥) → view c q ≡ view d q

module _ (f : List (List ℕ)) (a b : Content) (same : SameOutside f a b) where
  -- where nothing is above the front, nothing is behind it
  nothing_alike : (g path names : List (List ℕ)) → f ≡ path ++ names → found a path ≡ None
      → found b path ≡ None → SeenAlike g a b
  nothing_alike g path names at none_a none_b =
      record { views = λ q apart. on q (behind_or_not f q) }
    where
      gone : (c : Content) → found c path ≡ None → (q : List (List ℕ)) → IsBehind f q
          → view c q ≡ None
      gone c none q (n, ns, is) = grind (arith, nat_tests, found_append)

      on : (q : List (List ℕ)) → IsBehind f q ⊎ (IsBehind f q → ⊥) → view a q ≡ view b q
      on q (inl is) = gone a none_a q is ∙ sym (gone b none_b q is)
      on q (inr outside) = same.views q outside

  pub unmoved_alike : (path to : List (List ℕ)) → found a path ≡ None → found b path ≡ None
      → SeenAlike (front_done f (Move path to)) a b
  unmoved_alike path to none_a none_b = on (rest_after path f) refl
    where
      on : (o : Option (List (List ℕ))) → rest_after path f ≡ o
          → SeenAlike (option_map_or (λ names. to ++ names) o f) a b
      on None is = record { views = same.views }
      on (Some names) is = search (nothing_alike, rest_some)
