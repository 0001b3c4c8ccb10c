-- Objects sorted by name are in order, and none is lost or doubled.
use Rattle.std.proofs.Common.{◌≡◌, ℕ, true, false, not, List, [], ◌∷◌, refl, ap, inl, inr, arith}
use Rattle.std.proofs.lemmas.Bool.{cases_Bool, and_parts, and_from, cond-true, Decides.nat_tests}
use Rattle.std.proofs.lemmas.Cmp.{nat_list_cmp_total}
use Rattle.room_rows.specs.{declared.node.Node.Node, Content.{is_before, put_by_name}}
use Rattle.room_rows.{specs.Content.sorted_by_name, proofs.Lookups.count_sorted}
use Rattle.room_inherit.specs.Laws.{SortedByName, are_in_order}
use Rattle.room_entry.proofs.Facts.Members.{count-is}

-- a name that comes before another doesn't come after it
before_once : (a b : List ℕ) → is_before a b ≡ true → is_before b a ≡ false
before_once a b before = grind (arith, nat_tests, nat_list_cmp_total)

-- an object put in order behind one that comes before it
in_order_behind : (x y : Node) (ys : List Node) → is_before y.name x.name ≡ true
    → are_in_order (y ∷ ys) ≡ true → are_in_order (y ∷ put_by_name x ys) ≡ true
in_order_behind x y [] before order =
    and_from (not (is_before x.name y.name)) true (ap not (before_once y.name x.name before)) refl
in_order_behind x y (z ∷ zs) before order =
    let parts = and_parts (not (is_before z.name y.name)) (are_in_order (z ∷ zs)) order in
    elim (cases_Bool (is_before z.name x.name)) [
      | inl first ↦
          cc (
            cond-true (is_before z.name x.name) (z ∷ put_by_name x zs) (x ∷ z ∷ zs) first,
            and_from (not (is_before z.name y.name)) (are_in_order (z ∷ put_by_name x zs)) parts.0
                (in_order_behind x z zs first parts.1),
          )
      | inr isnt ↦ grind (arith, nat_tests, before_once)
    ]

in_order_put : (x : Node) (ys : List Node) → are_in_order ys ≡ true
    → are_in_order (put_by_name x ys) ≡ true
in_order_put x [] order = refl
in_order_put x (y ∷ ys) order = grind (arith, nat_tests, in_order_behind)

in_order_sorted : (nodes : List Node) → are_in_order (sorted_by_name nodes) ≡ true
in_order_sorted [] = refl
in_order_sorted (x ∷ xs) = in_order_put x (sorted_by_name xs) (in_order_sorted xs)

pub sorted_by_name_sorts : SortedByName
sorted_by_name_sorts nodes = grind (arith, nat_tests, count-is, count_sorted, in_order_sorted)
