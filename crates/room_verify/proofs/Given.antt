-- Parents and names that have been given.
use Rattle.std.proofs.Common.{◌≡◌, ℕ, ◌==◌, ◌<◌, ◌+◌, ◌&&◌, ◌||◌, Bool, true, false, cond, not}
use Rattle.std.proofs.Common.{List, Option, Some, length, get_or, take, nat_lt, refl, ap, ◌∙◌}
use Rattle.std.proofs.{Common.arith, lemmas.List.{take_more, Recursion.or_push}}
use Rattle.std.{proofs.lemmas.{Map.Text.is_eq-slice_cmp, Bool.Decides.nat_tests}, specs.Borrow.Bor}
use Rattle.std.specs.{List.list_any, Option.option_map_or, Ordering.{nat_cmp, ordering_then, is_eq}}
use Rattle.std.specs.{Cmp.Lexicographic.slice_cmp, declared.cmp.Ordering.Ordering}
use Rattle.room_entry.specs.Pieces.{same_text}
use Rattle.room_rows.specs.{declared.node.Node.Node, Content.{has_parent, same_parent}}
use Rattle.room_rows.specs.{Paths.is_object_name, Sound.{has_sound_name, same_place}}
use Rattle.room_verify.{specs.Objects.{are_rising, only}, proofs.Numbers.any_before}

-- a parent and a name
abbrev pub Key : Type 0
Key = ℕ × Bor (List ℕ)

-- by the parent, then by the name
abbrev pub key_order : Key → Key → Ordering
key_order x y = ordering_then (nat_cmp x.0 y.0) (slice_cmp nat_cmp x.1.now y.1.now)

-- the object stands under this parent by this name
abbrev pub holds : Key → Node → Bool
holds key node = has_parent key.0 node && same_text node.name key.1.now

both_equal : (a b : Ordering) → is_eq (ordering_then a b) ≡ (is_eq a && is_eq b)
both_equal a b = grind (arith, nat_tests)

pub numbers_equal : (x y : ℕ) → is_eq (nat_cmp x y) ≡ (x == y)
numbers_equal x y = grind (arith, nat_tests)

key_equal : (x y : Key) → is_eq (key_order x y) ≡ ((x.0 == y.0) && same_text x.1.now y.1.now)
key_equal x y = grind (arith, nat_tests, both_equal, is_eq-slice_cmp, numbers_equal)

or_swapped : (t u : Bool) → cond t true u ≡ (u || t)
or_swapped t u = grind (arith, nat_tests)

module _ (nodes : List Node) (i : ℕ) (node : Node) (parent : ℕ) (name : Bor (List ℕ))
    (below : i < length nodes) (is : node ≡ get_or nodes i node) (under : node.parent ≡ Some parent)
    (named : name.now ≡ node.name) where
  here : (q : Key) → is_eq (key_order (parent, name) q) ≡ holds q node
  here q = cc (key_equal (parent, name) q, named, under)

  -- the set with one more
  pub one_more : (old new : Key → Bool) → ((q : Key) → old q ≡ list_any (holds q) (take i nodes))
      → ((q : Key) → new q ≡ cond (is_eq (key_order (parent, name) q)) true (old q)) → (q : Key)
      → new q ≡ list_any (holds q) (take (i + 1) nodes)
  one_more old new was adds q =
      cc (
        adds q,
        here q,
        was q,
        or_swapped (holds q node) (list_any (holds q) (take i nodes)),
        or_push (list_any (holds q)) (holds q) refl (λ _ _. refl) (take i nodes) node,
        is,
        take_more nodes i node below,
      )

  same_parents : (above : Option ℕ)
      → same_parent above node.parent ≡ option_map_or (λ p. p == parent) above false
  same_parents above = grind (arith, nat_tests)

  same_holds : (other : Node) → same_place other node ≡ holds (parent, name) other
  same_holds other = grind (arith, nat_tests, same_parents)

  -- the test of the name, by those that stand before
  pub name_test : are_rising nodes ≡ true
      → has_sound_name (only nodes) node
      ≡ (is_object_name node.name && not (list_any (holds (parent, name)) (take i nodes)))
  name_test rises =
      ap (λ (o : Option ℕ). Rattle.std.specs.Prelude.is_none o
      || (is_object_name node.name
      && not (list_any (λ (other : Node). nat_lt other.id node.id && same_place other node) nodes)))
      under
      ∙ ap (λ t. is_object_name node.name && not t) (
      ap (λ (x : Node). list_any
      (λ (other : Node). nat_lt other.id x.id && same_place other node) nodes) is
      ∙ any_before 0 (λ other. same_place other node) nodes rises i node below
      ∙ (λ j. list_any (λ other. same_holds other j) (take i nodes)))
