-- How deep a tree is written: no deeper than there are objects that weren't reached yet.
use Rattle.std.proofs.Common.{rules, ◌≡◌, ℕ, zero, suc, ◌+◌, ◌<◌, ◌≤◌, ◌==◌, Bool, true, false, not}
use Rattle.std.proofs.Common.{List, [], ◌∷◌, ◌++◌, filter, Option, Some, None, ap, subst, ◌∙◌}
use Rattle.std.proofs.{Common.arith, lemmas.Bool.{false≢true, eqb-true, eq-eqb}}
use Rattle.std.specs.{List.{flat_map, AllByRecursion as Each}, Option.option_map_or}
use Rattle.room_rows.specs.{declared.node.Node.Node, Content.{Content, children_of, has_parent}}
use Rattle.room_dump.specs.{Dump.tree_of, Visits.{HasAll, always, is_number}}
use Rattle.room_dump.proofs.Counting.{count_parts, each_both, each_counted, each_filter}
use Rattle.room_dump.proofs.Counting.{none_counted, same_flat}
use Rattle.room_entry.proofs.Facts.{Members.count, Lists.filter_weaker}
use Rattle.room_rows.proofs.Lookups.{each-sorted}

-- no number stands twice
abbrev pub IsOnce : Node → List Node → Type 0
IsOnce node rest = (id : ℕ) → count (is_number id) (node ∷ []) + count (is_number id) rest ≤ 1

-- these without the children of the object
abbrev pub others : Node → List Node → List Node
others node rest = filter (λ n. not (has_parent node.id n)) rest

-- an object has one parent
one_parent : (x y : ℕ) (node : Node) → (x == y) ≡ false → has_parent x node ≡ true
    → not (has_parent y node) ≡ true
one_parent x y node apart is = on node.parent is
  where
    on : (parent : Option ℕ) → option_map_or (λ p. p == x) parent false ≡ true
        → not (option_map_or (λ p. p == y) parent false) ≡ true
    on None is = absurd (false≢true is)
    on (Some p) is = ap not (ap (λ n. n == y) (eqb-true p x is) ∙ apart)

-- so another object has all its children still
pub all_still : (content : Content) (rest : List Node) (node other : Node)
    → is_number node.id other ≡ false → HasAll content rest other
    → HasAll content (others node rest) other
all_still content rest node other apart all = search (rules, filter_weaker, one_parent, apart)

less_by_one : (a b c : ℕ) → 1 + a ≤ b → b < suc c → a < c
less_by_one a b c e less = omega (arith, e, less)

with_more : (a b c d : ℕ) → a ≤ b → b + c ≡ d → a + c ≤ d
with_more a b c d e is = omega (arith, e, is)

at_most_one : (a b : ℕ) → a ≤ b → (n : ℕ) → n + b ≤ 1 → a ≤ 1
at_most_one a b e n one = omega (arith, e, one)

none_more : (a : ℕ) → (1 + 0) + a ≤ 1 → a ≤ 0
none_more a one = omega (arith, one)

not_below_zero : (n : ℕ) → n < 0 → ⊥
not_below_zero n less = omega (arith, less)

-- the object is none of those of which it stands apart
pub apart_from : (node : Node) (rest : List Node) → IsOnce node rest
    → Each (λ n. is_number node.id n ≡ false) rest
apart_from node rest once =
    none_counted (is_number node.id) rest (grind (arith, none_more, count, node.id, eq-eqb, once))

below_next : (a b : ℕ) → a < b → a < suc b
below_next a b less = omega (arith, less)

module _ {P X : Type 0} (below : P → Node → Node → P) (tell : P → Node → List X) where
  -- Two depths beyond the count of objects that nobody has come to yet give the same text.
  abbrev Same : ℕ → ℕ → Content → Type 0
  Same d e content =
      (rest : List Node) (place : P) (node : Node) → HasAll content rest node
      → Each (HasAll content rest) rest → IsOnce node rest → count always rest < d
      → count always rest < e
      → tree_of below tell d content place node ≡ tree_of below tell e content place node

  -- one level down there are fewer
  level : (d e : ℕ) (content : Content) → Same d e content → Same (suc d) (suc e) content
  level d e content before rest place node all alls once less less' =
      ap (λ (text : List X). tell place node ++ text)
      (same_flat (λ child. tree_of below tell d content (below place node child) child)
      (λ child. tree_of below tell e content (below place node child) child) (children_of content node.id)
      (each-sorted SameBelow (filter (has_parent node.id) content.nodes)
      (subst (Each SameBelow) all all_same)))
    where
      SameBelow : Node → Type 0
      SameBelow child =
          tree_of below tell d content (below place node child) child
          ≡ tree_of below tell e content (below place node child) child

      left : List Node
      left = others node rest

      still : Each (HasAll content left) rest
      still =
          each_both (HasAll content rest) (λ n. is_number node.id n ≡ false) (HasAll content left)
          (λ n has apart. all_still content rest node n apart has) rest alls
          (apart_from node rest once)

      child_same : (child : Node) → HasAll content left child
          → ((p : Node → Bool) → count p (child ∷ []) ≤ count p (filter (has_parent node.id) rest))
          → SameBelow child
      child_same child has counted =
          let fewer = λ (p : Node → Bool). with_more (count p (child ∷ []))
          (count p (filter (has_parent node.id) rest)) (count p left) (count p rest) (counted p)
          (count_parts p (has_parent node.id) rest) in
          before left (below place node child) child has
          (each_filter (HasAll content left) (λ n. not (has_parent node.id n)) rest still)
          (grind (arith, at_most_one, count, rest, fewer, node, once))
          (less_by_one (count always left) (count always rest) d (fewer always) less)
          (less_by_one (count always left) (count always rest) e (fewer always) less')

      all_same : Each SameBelow (filter (has_parent node.id) rest)
      all_same =
          each_both (HasAll content left)
          (λ c. (p : Node → Bool)
          → count p (c ∷ []) ≤ count p (filter (has_parent node.id) rest)) SameBelow child_same
          (filter (has_parent node.id) rest)
          (each_filter (HasAll content left) (has_parent node.id) rest still)
          (each_counted (filter (has_parent node.id) rest))

  pub deep_enough : (d e : ℕ) (content : Content) → Same d e content
  deep_enough zero e content rest place node all alls once less less' =
      absurd (not_below_zero (count always rest) less)
  deep_enough (suc d) zero content rest place node all alls once less less' =
      absurd (not_below_zero (count always rest) less')
  deep_enough (suc d) (suc e) content rest place node all alls once less less' =
      level d e content (λ r p n a b c x y. deep_enough d e content r p n a b c x y) rest place node
      all alls once less less'

  -- An object's text, and after it those of its children as deep.
  pub goes_on : (d : ℕ) (content : Content) (rest : List Node) (place : P) (node : Node)
      → HasAll content rest node → Each (HasAll content rest) rest → IsOnce node rest
      → count always rest < d
      → tree_of below tell d content place node ≡ tell place node
      ++ flat_map (λ child. tree_of below tell d content (below place node child) child)
      (children_of content node.id)
  goes_on d content rest place node all alls once less =
      deep_enough d (suc d) content rest place node all alls once less
      (below_next (count always rest) d less)
