-- Steps one after the other.
use Rattle.std.proofs.Common.{◌≡◌, ℕ, ◌+◌, ◌<◌, List, [], ◌∷◌, ◌++◌, drop, get_or, length, take}
use Rattle.std.proofs.Common.{refl, sym, ap, subst, ◌∙◌}
use Rattle.std.proofs.lemmas.List.{drop_more, take-append-drop, take_more}
use Rattle.room_piece.specs.{Holding.IsWell, InTurn.{InTurn, StopsInTurn}}
use Rattle.room_piece.specs.declared.{piece.Piece.Piece, refusal.Refusal.Refusal}

module _ {X : Type 0} (Step : X → Piece → Piece → Type 0) where
  -- one step more
  turn_more : (xs : List X) (x : X) (a b c : Piece) → InTurn Step xs a b → Step x b c
      → InTurn Step (xs ++ x ∷ []) a c
  turn_more [] x a b c same step = (c, subst (λ (p : Piece). Step x p c) same step, refl)
  turn_more (y ∷ xs) x a b c turns step =
      (turns.0, turns.1, turn_more xs x turns.0 b c turns.2 step)

  module _ (keeps : (x : X) (a b : Piece) → Step x a b → IsWell b.keep) where
    -- sound rows stay sound
    pub well_then : (xs : List X) (a b : Piece) → IsWell a.keep → InTurn Step xs a b
        → IsWell b.keep
    well_then [] a b well same = subst (λ (p : Piece). IsWell p.keep) (sym same) well
    well_then (x ∷ xs) a b well turns =
        well_then xs turns.0 b (keeps x a turns.0 turns.1) turns.2

    -- ---- in terms of a loop

    module _ (xs : List X) (i : ℕ) (x : X) (below : i < length xs) (is : x ≡ get_or xs i x)
        (a b : Piece) (sofar : IsWell a.keep → InTurn Step (take i xs) a b) where
      pub next_turn : (c : Piece) → (IsWell b.keep → Step x b c) → IsWell a.keep
          → InTurn Step (take (i + 1) xs) a c
      next_turn c step well =
          let here = well_then (take i xs) a b well (sofar well) in
          subst (λ (l : List X). InTurn Step l a c)
          (ap (λ (y : X). take i xs ++ y ∷ []) is ∙ sym (take_more xs i x below))
          (turn_more (take i xs) x a b c (sofar well) (step here))

      pub stops_there : (Cannot : X → Piece → Refusal → Type 0) (refusal : Refusal)
          → (IsWell b.keep → Cannot x b refusal) → IsWell a.keep
          → StopsInTurn Step Cannot xs a refusal
      stops_there Cannot refusal cannot well = record {
        before = take i xs;
        one = x;
        behind = drop (i + 1) xs;
        all =
            sym (take-append-drop i xs)
            ∙ ap (λ (l : List X). take i xs ++ l)
            (drop_more xs i x below ∙ ap (λ (y : X). y ∷ drop (i + 1) xs) (sym is));
        mid = b;
        done = sofar well;
        cannot = cannot (well_then (take i xs) a b well (sofar well));
      }
