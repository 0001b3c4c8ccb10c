-- Ways up to the root, where one object gets another parent.
use Rattle.std.proofs.Common.{◌≡◌, ℕ, zero, suc, ◌==◌, Bool, true, false, not, List, [], ◌∷◌, map}
use Rattle.std.proofs.Common.{Option, Some, None, refl, ap, ◌∙◌, inl, inr, arith}
use Rattle.std.proofs.lemmas.Bool.{cases_Bool, and_parts, false≢true, Decides.nat_tests}
use Rattle.std.specs.{List.find, Option.{option_map, option_map_or}}
use Rattle.room_rows.specs.{declared.node.Node.Node, Content.{Content, node_at, reaches_root}}
use Rattle.room_rows.{specs.Content.with_each, proofs.Frames.node_at-number}
use Rattle.room_desk.specs.Moving.{goes_past}

-- an object of this number, and the rest of the way
pub step_up : (p : Node → Bool) (o : Option Node) → option_map_or p o false ≡ true → (node : Node)
    × (o ≡ Some node) × (p node ≡ true)
step_up p None is = absurd (false≢true is)
step_up p (Some node) is = (node, refl, is)

module _ (content : Content) (change : Node → Node)
    (number : (n : Node) → (change n).id ≡ n.id) where
  find_changed : (id : ℕ) (nodes : List Node)
      → find (λ (n : Node). n.id == id) (map change nodes)
      ≡ option_map change (find (λ (n : Node). n.id == id) nodes)
  find_changed id [] = refl
  find_changed id (x ∷ xs) = grind (arith, nat_tests, find_changed id xs)

  -- the same numbers are found
  pub node_at-changed : (id : ℕ)
      → node_at (with_each content change) id ≡ option_map change (node_at content id)
  node_at-changed id = find_changed id content.nodes

  -- with the same parents the ways up are the same
  pub reaches-changed : ((n : Node) → (change n).parent ≡ n.parent) → (n : ℕ) (parent : Option ℕ)
      → reaches_root n (with_each content change) parent ≡ reaches_root n content parent
  reaches-changed same n None = refl
  reaches-changed same zero (Some id) = refl
  reaches-changed same (suc n) (Some id) =
      cc (node_at-changed id, on (node_at content id) (λ parent. reaches-changed same n parent))
    where
      on : (o : Option Node)
          → ((parent : Option ℕ)
          → reaches_root n (with_each content change) parent ≡ reaches_root n content parent)
          → option_map_or (λ (above : Node). reaches_root n (with_each content change) above.parent)
          (option_map change o) false
          ≡ option_map_or (λ (above : Node). reaches_root n content above.parent) o false
      on None rest = refl
      on (Some above) rest = rest (change above).parent ∙ ap (reaches_root n content) (same above)

  module _ (t k : ℕ) (elsewhere : (n : Node) → (n.id == t) ≡ false → (change n).parent ≡ n.parent)
      (here : (n : Node) → (n.id == t) ≡ true → (change n).parent ≡ Some k) where
    abbrev after : Content
    after = with_each content change

    found_number : (id : ℕ) (node : Node) → node_at content id ≡ Some node → node.id ≡ id
    found_number id node found = node_at-number content id node found

    -- a way that doesn't meet the object is as it was
    pub past_reaches : (n : ℕ) (parent : Option ℕ) → goes_past n content t parent ≡ true
        → reaches_root n after parent ≡ true
    past_reaches n None past = refl
    past_reaches zero (Some id) past = absurd (false≢true past)
    past_reaches (suc n) (Some id) past =
        let parts = and_parts (not (id == t))
        (option_map_or (λ (node : Node). goes_past n content t node.parent)
        (node_at content id) false) past in
        let up = step_up (λ (node : Node). goes_past n content t node.parent)
        (node_at content id) parts.1 in
        ap (λ o. option_map_or (λ (above : Node). reaches_root n after above.parent) o false)
        (node_at-changed id ∙ ap (option_map change) up.1)
        ∙ ap (reaches_root n after)
        (elsewhere up.0 (ap (λ i. i == t) (found_number id up.0 up.1) ∙ isnt (id == t) parts.0))
        ∙ past_reaches n up.0.parent up.2
      where
        isnt : (b : Bool) → not b ≡ true → b ≡ false
        isnt true is = absurd (false≢true is)
        isnt false is = refl

    -- a way that led to the root leads there again
    pub reaches_again : (steps : ℕ) → goes_past steps content t (Some k) ≡ true
        → (n : ℕ) (parent : Option ℕ) → reaches_root n content parent ≡ true → (m : ℕ)
        × (reaches_root m after parent ≡ true)
    reaches_again steps past n None up = (0, refl)
    reaches_again steps past zero (Some id) up = absurd (false≢true up)
    reaches_again steps past (suc n) (Some id) up =
        let above = step_up (λ (node : Node). reaches_root n content node.parent)
        (node_at content id) up in
        let same : above.0.id ≡ id = found_number id above.0 above.1 in
        let found : node_at after id ≡ Some (change above.0) = cc (node_at-changed id, above.1) in
        elim (cases_Bool (id == t)) [
          | inl is ↦ (
            suc steps,
            cc (found, here above.0 (ap (λ i. i == t) same ∙ is), past_reaches steps (Some k) past),
          )
          | inr isnt ↦
              let rest = reaches_again steps past n above.0.parent above.2 in (
                suc rest.0,
                grind (arith, nat_tests),
              )
        ]
