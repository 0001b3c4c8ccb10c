-- A way up to the root has no loop.
use Rattle.std.proofs.Common.{arith, ◌≡◌, ℕ, zero, suc, ◌==◌, Bool, true, false, ◌||◌, Option, Some}
use Rattle.std.proofs.{Common.{None, sym, ap, ◌∙◌, inl, inr}, lemmas.Bool.{false≢true, or_cases}}
use Rattle.std.proofs.lemmas.{Bool.eqb-true, Option.same_Some}
use Rattle.std.specs.{Prelude.option_and_then, Option.option_map_or}
use Rattle.room_rows.specs.{declared.node.Node.Node, Content.{Content, node_at, reaches_root}}
use Rattle.room_inherit.specs.{Spread.is_within, Ancestry.RootedIsNoLoop}

module _ (rows : Content) (id m : ℕ) (node : Node) (found : node_at rows id ≡ Some node)
    (round : is_within m rows id node ≡ true) where
  -- going up from an object below it, by the parent's number
  abbrev up_within : ℕ → Option ℕ → Bool
  up_within k parent =
      option_map_or (λ p. p == id) parent false
      || option_map_or (is_within k rows id) (option_and_then (node_at rows) parent) false

  never : (n k : ℕ) (parent : Option ℕ) → up_within k parent ≡ true
      → reaches_root n rows parent ≡ true → ⊥
  never n k None below reaches = false≢true below
  never zero k (Some p) below reaches = false≢true reaches
  never (suc n) k (Some p) below reaches =
      elim (or_cases (p == id) (option_map_or (is_within k rows id) (node_at rows p) false) below) [
        | inl is ↦
            again (λ j parent b r. never n j parent b r) m round
            (grind (arith, eqb-true, is, reaches))
        | inr more ↦ further (λ j parent b r. never n j parent b r) (node_at rows p) k more reaches
      ]
    where
      again : ((j : ℕ) (parent : Option ℕ) → up_within j parent ≡ true
          → reaches_root n rows parent ≡ true → ⊥) → (j : ℕ) → is_within j rows id node ≡ true
          → reaches_root n rows node.parent ≡ true → ⊥
      again before zero is up = false≢true is
      again before (suc j) is up = before j node.parent is up

      further : ((j : ℕ) (parent : Option ℕ) → up_within j parent ≡ true
          → reaches_root n rows parent ≡ true → ⊥) → (o : Option Node) (j : ℕ)
          → option_map_or (is_within j rows id) o false ≡ true
          → option_map_or (λ (q : Node). reaches_root n rows q.parent) o false ≡ true → ⊥
      further before None j is up = false≢true is
      further before (Some q) zero is up = false≢true is
      further before (Some q) (suc j) is up = before j q.parent is up

-- an object whose parents lead to the root isn't below itself
pub rooted_no_loop : RootedIsNoLoop
rooted_no_loop rows id n node found reaches loop = on loop.2.0 loop.2.1
  where
    same : loop.0 ≡ node
    same = same_Some loop.0 node (sym loop.1 ∙ found)

    on : (m : ℕ) → is_within m rows id loop.0 ≡ true → ⊥
    on zero is = false≢true is
    on (suc j) is =
        never rows id (suc j) node found
        (ap (is_within (suc j) rows id) (sym same) ∙ is) n j node.parent
        (ap (λ (x : Node). is_within (suc j) rows id x) (sym same) ∙ is) reaches
