-- One step upward.
use Rattle.std.proofs.Common.{◌≡◌, ℕ, suc, ◌<◌, ◌+◌, ◌-◌, Bool, true, cond, List, [], ◌∷◌, ◌++◌}
use Rattle.std.proofs.Common.{length, reverse, Option, Some, subst, ◌∙◌, arith, append_assoc}
use Rattle.std.{proofs.lemmas.{List.reverse-append, Bool.Decides.nat_tests}, specs.Ordering.nat_cmp}
use Rattle.std.specs.Ordering.{is_eq}
use Rattle.room_rows.specs.{declared.node.Node.Node, Content.{Content, node_at, parent_of}}
use Rattle.room_rows.specs.{Content.reaches_root, Sound.names_up}
use Rattle.room_verify.{specs.Objects.{AllLead, leads}, proofs.Given.numbers_equal}
use Rattle.room_inherit.proofs.Enough.{enough_steps}

-- the name of the object, after those of its parent
pub one_up : (count step : ℕ) (rows : Content) (node parent : Node) (names more : List (List ℕ))
    → step < count → Some parent ≡ parent_of rows node → more ≡ names ++ node.name ∷ []
    → names_up (count - (step + 1)) rows parent ++ reverse more ≡ names_up (count - step) rows node
    ++ reverse names
one_up count step rows node parent names more below above pushed =
    let left : suc (count - (step + 1)) ≡ count - step = omega arith in
    cc (
      pushed,
      reverse-append names (node.name ∷ []),
      append_assoc (names_up (count - (step + 1)) rows parent) (node.name ∷ []) (reverse names),
      above,
      left,
    )

-- ---- ways to the root

module _ (rows : Content) (above : Option ℕ) (id : ℕ) (parent : Node) (is : above ≡ Some id)
    (found : node_at rows id ≡ Some parent) where
  up_one : (n : ℕ) → reaches_root (suc n) rows above ≡ reaches_root n rows parent.parent
  up_one n = grind (arith, nat_tests)

  pub way_left : (count step : ℕ) → step < count
      → reaches_root (count - (step + 1)) rows parent.parent
      ≡ reaches_root (count - step) rows above
  way_left count step below = grind (arith, nat_tests, up_one)

  pub way_longer : (m step : ℕ) (first : Option ℕ)
      → ((n : ℕ) → reaches_root n rows above ≡ true → reaches_root (n + step) rows first ≡ true)
      → reaches_root m rows parent.parent ≡ true → reaches_root (m + (step + 1)) rows first ≡ true
  way_longer m step first further up =
      subst (λ n. reaches_root n rows first ≡ true) (omega arith) (further (suc m) (up_one m ∙ up))

  -- what is above leads to the root as well
  pub way_above : (count step : ℕ) → step < count → count ≡ length rows.nodes
      → reaches_root count rows above ≡ true
      → reaches_root (length rows.nodes) rows parent.parent ≡ true
  way_above count step below all up = grind (arith, nat_tests, enough_steps, up_one)

-- one more number that leads to the root
pub leads_too : (nodes : List Node) (id : ℕ) (old new : ℕ → Bool) → AllLead nodes old
    → leads nodes id ≡ true → ((q : ℕ) → new q ≡ cond (is_eq (nat_cmp id q)) true (old q))
    → AllLead nodes new
leads_too nodes id old new lead here adds q has = grind (arith, nat_tests, numbers_equal)
