-- A way to the root needs no more steps than there are objects: a shorter one leaves out what lies
-- between two meetings of one number.
use Rattle.std.proofs.Common.{◌≡◌, ℕ, zero, suc, ◌≤◌, ◌+◌, ◌==◌, Bool, true, false, not, List, []}
use Rattle.std.proofs.Common.{◌∷◌, filter, length, Option, Some, None, ◌⊎◌, refl, sym, ap, ◌∙◌, inl}
use Rattle.std.proofs.{Common.{inr, arith}, lemmas.Bool.{cases_Bool, false≢true, eqb-true}}
use Rattle.std.{proofs.lemmas.Bool.{eqb-false, Decides.nat_tests}, specs.Option.option_map_or}
use Rattle.room_rows.specs.{declared.node.Node.Node, Content.{Content, node_at, reaches_root}}
use Rattle.room_rows.specs.{Content.without_node, Finding.find_id}
use Rattle.room_rows.proofs.Frames.{node_at-without_node, node_at-without_node-other}
use Rattle.room_inherit.specs.Ancestry.{EnoughSteps}

-- ---- fewer objects without one of them

no_more : (t : Node → Bool) (nodes : List Node) → length (filter t nodes) ≤ length nodes
no_more t [] = omega arith
no_more t (x ∷ xs) = grind (arith, nat_tests, no_more t xs)

fewer : (id : ℕ) (nodes : List Node) (node : Node) → find_id id nodes ≡ Some node
    → length (filter (λ n. not (n.id == id)) nodes) + 1 ≤ length nodes
fewer id [] node found = absurd (let wrong : ⊥ = cc in wrong)
fewer id (x ∷ xs) node found = grind (arith, nat_tests, no_more, fewer id xs node)

-- ---- a way, and the same without an object

module _ (content : Content) (id : ℕ) where
  -- what leads up without the object leads up with it
  back : (n : ℕ) (parent : Option ℕ) → reaches_root n (without_node content id) parent ≡ true
      → reaches_root n content parent ≡ true
  back n None up = refl
  back zero (Some p) up = up
  back (suc n) (Some p) up = elim (cases_Bool (p == id)) [
    | inl same ↦ grind (arith, nat_tests, node_at-without_node)
    | inr other ↦
        on (node_at content p)
        (grind (arith, nat_tests, node_at-without_node-other))
        (λ parent higher. back n parent higher)
  ]
    where
      on : (o : Option Node)
          → option_map_or (λ (q : Node). reaches_root n (without_node content id) q.parent) o false
          ≡ true
          → ((parent : Option ℕ) → reaches_root n (without_node content id) parent ≡ true
          → reaches_root n content parent ≡ true)
          → option_map_or (λ (q : Node). reaches_root n content q.parent) o false ≡ true
      on o up before = grind (arith, nat_tests)

  -- a way doesn't meet the object, or goes on from it
  cut : (n : ℕ) (parent : Option ℕ) → reaches_root n content parent ≡ true
      → (reaches_root n (without_node content id) parent ≡ true)
      ⊎ ((m : ℕ) × (m ≤ n) × (reaches_root m content (Some id) ≡ true))
  cut n None up = inl refl
  cut zero (Some p) up = absurd (false≢true up)
  cut (suc n) (Some p) up = elim (cases_Bool (p == id)) [
    | inl same ↦
        inr (
          suc n,
          omega arith,
          ap (λ x. reaches_root (suc n) content (Some x)) (sym (eqb-true p id same)) ∙ up,
        )
    | inr other ↦
        on (eqb-false p id other) (node_at content p) refl up (λ parent higher. cut n parent higher)
  ]
    where
      on : (p ≡ id → ⊥) → (o : Option Node) → node_at content p ≡ o
          → option_map_or (λ (q : Node). reaches_root n content q.parent) o false ≡ true
          → ((parent : Option ℕ) → reaches_root n content parent ≡ true
          → (reaches_root n (without_node content id) parent ≡ true)
          ⊎ ((m : ℕ) × (m ≤ n) × (reaches_root m content (Some id) ≡ true)))
          → (reaches_root (suc n) (without_node content id) (Some p) ≡ true)
          ⊎ ((m : ℕ) × (m ≤ suc n) × (reaches_root m content (Some id) ≡ true))
      on other o is up before = grind (arith, nat_tests, node_at-without_node-other)

-- ---- enough steps

-- in contents of at most this many objects
abbrev Enough : ℕ → Type 0
Enough most = (content : Content) → length content.nodes ≤ most → (n : ℕ) (parent : Option ℕ)
    → reaches_root n content parent ≡ true → reaches_root most content parent ≡ true

-- a number that is met again makes the way shorter, or else the rest goes without its object
shorter : (most : ℕ) → Enough most → (fuel : ℕ) (content : Content)
    → length content.nodes ≤ suc most → (n p : ℕ) → n ≤ fuel
    → reaches_root n content (Some p) ≡ true → reaches_root (suc most) content (Some p) ≡ true
shorter most before fuel content fits zero p short up = absurd (false≢true up)
shorter most before zero content fits (suc n) p short up = absurd (omega arith)
shorter most before (suc fuel) content fits (suc n) p short up =
    on (node_at content p) refl up
    (λ m less again. shorter most before fuel content fits m p less again)
  where
    on : (o : Option Node) → node_at content p ≡ o
        → option_map_or (λ (q : Node). reaches_root n content q.parent) o false ≡ true
        → ((m : ℕ) → m ≤ fuel → reaches_root m content (Some p) ≡ true
        → reaches_root (suc most) content (Some p) ≡ true)
        → reaches_root (suc most) content (Some p) ≡ true
    on None is up again = absurd (false≢true up)
    on (Some q) is up again = elim (cut content p n q.parent up) [
      | inl apart ↦
          (let less = fewer p content.nodes q is in
          grind (arith, nat_tests, back))
      | inr met ↦ again met.0 (let less = met.1 in omega (arith, less, short)) met.2
    ]

none_left : (content : Content) → length content.nodes ≤ 0 → (n p : ℕ)
    → reaches_root n content (Some p) ≡ true → ⊥
none_left content fits n p up = grind (arith, nat_tests, fewer)

enough : (most : ℕ) → Enough most
enough most content fits n None up = refl
enough zero content fits n (Some p) up = absurd (none_left content fits n p up)
enough (suc most) content fits n (Some p) up =
    shorter most (enough most) n content fits n p (omega arith) up

-- if there is a way to the root, as many steps as there are objects are enough for one
pub enough_steps : EnoughSteps
enough_steps rows n parent up = enough (length rows.nodes) rows (omega arith) n parent up
