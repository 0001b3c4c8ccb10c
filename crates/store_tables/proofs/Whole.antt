-- Rows that can't be read are told as damaged, and none is left out.
use Rattle.std.proofs.Common.{rules, ◌≡◌, ℕ, ◌+◌, pos, List, [], ◌∷◌, ◌++◌, length, map, filter}
use Rattle.std.proofs.Common.{take, Option, Some, None, true, not, IfOk, refl, sym, ap, ◌∙◌, arith}
use Rattle.std.proofs.{Common.IsPermutation, lemmas.{Cmp.on_total, List.length-append}}
use Rattle.std.proofs.lemmas.{List.{length-map, Sorted.length_permutation}, Bool.Decides.nat_tests}
use Rattle.std.specs.Prelude.{is_some, option_map, ◌==◌}
use Rattle.sqlite.specs.{Effect.Database, Order.{Row, column}}
use Rattle.sqlite_keyed.{specs.Lists.sort_by, proofs.SortLemmas.IsPermutation-sort_by}
use Rattle.sqlite_value.proofs.OrderLemmas.{value_cmp_total}
use Rattle.room_rows.specs.{declared.node.Node.Node, Content.is_empty}
use Rattle.store_tables.specs.declared.seen.Seen.{Seen, TheVariants.{Foreign, Unread, Found}}
use Rattle.store_tables.specs.{Meaning.{named_in, node_in, number_in}, Seeing.result_of_seen}
use Rattle.store_tables.specs.Seeing.{seen_as, seen_behind, seen_in, seen_only, seen_then, top_of}
use Rattle.store_tables.specs.{Shown.{is_child_named, is_top, shown_node}, Statements.HasNames}
use Rattle.store_tables.specs.{Statements.{HasSome, HasTop, HasUnder}, Whole.{SeesEach, SeesNamed}}
use Rattle.store_tables.{specs.Whole.{SeesSome, SeesTop}, proofs.{Tests.if_ok, Under.by_name}}

-- ---- lists of which both or neither are empty

empty_moved : {A : Type 0} (xs ys : List A) → IsPermutation xs ys → is_empty ys ≡ is_empty xs
empty_moved [] [] moved = refl
empty_moved [] (y ∷ ys) moved = absurd (omega (arith, length_permutation [] (y ∷ ys) moved))
empty_moved (x ∷ xs) [] moved = absurd (omega (arith, length_permutation (x ∷ xs) [] moved))
empty_moved (x ∷ xs) (y ∷ ys) moved = refl

empty_map : {A B : Type 0} (f : A → B) (xs : List A) → is_empty (map f xs) ≡ is_empty xs
empty_map f [] = refl
empty_map f (x ∷ xs) = refl

empty_first : {A : Type 0} (xs : List A) → (length (take 1 xs) == 0) ≡ is_empty xs
empty_first [] = refl
empty_first (x ∷ xs) = refl

-- ---- one row

only_whole : (rows : List Row)
    → IfOk (result_of_seen (seen_only rows)) (λ found. is_some found ≡ not (is_empty rows))
only_whole [] = refl
only_whole (r ∷ []) = by (node_in r) (number_in (column r 0))
  where
    by : (o : Option Node) (m : Option ℕ)
        → IfOk (result_of_seen (seen_as (option_map Some o) m)) (λ found. is_some found ≡ true)
    by (Some n) m = refl
    by None None = tt
    by None (Some id) = tt
only_whole (r ∷ other ∷ more) = tt

top_whole : (rows : List Row)
    → IfOk (top_of (seen_only rows)) (λ node. map node_in rows ≡ Some node ∷ [])
top_whole [] = tt
top_whole (r ∷ []) = by (node_in r) (number_in (column r 0))
  where
    by : (o : Option Node) (m : Option ℕ)
        → IfOk (top_of (seen_as (option_map Some o) m)) (λ node. o ∷ [] ≡ Some node ∷ [])
    by (Some n) m = refl
    by None None = tt
    by None (Some id) = tt
top_whole (r ∷ other ∷ more) = tt

-- ---- several rows

behind_whole : {X : Type 0} (f : Row → Option X) (before : List X) (rows : List Row)
    → IfOk (result_of_seen (seen_behind f before rows))
    (λ all. length all ≡ length before + length rows)
behind_whole f before [] = omega arith
behind_whole {X} f before (r ∷ rows) = by (seen_in f r) (λ more. behind_whole f more rows)
  where
    by : (s : Seen X)
        → ((more : List X) → IfOk (result_of_seen (seen_behind f more rows))
        (λ all. length all ≡ length more + length rows))
        → IfOk (result_of_seen (seen_then s (λ more. seen_behind f more rows) before))
        (λ all. length all ≡ length before + length (r ∷ rows))
    by Foreign each = tt
    by (Unread id) each = tt
    by (Found x) each =
        if_ok (result_of_seen (seen_behind f (before ++ x ∷ []) rows)) _ _
        (λ all is. omega (arith, is, length-append before (x ∷ []))) (each (before ++ x ∷ []))

sorted_whole : (shown : Row → Row) (kept rows : List Row) → rows ≡ map shown (sort_by by_name kept)
    → length rows ≡ length kept
sorted_whole shown kept rows is =
    ap (λ l. length l) is ∙ length-map (sort_by by_name kept) shown
    ∙ sym (length_permutation (sort_by by_name kept) kept
    (IsPermutation-sort_by by_name (on_total (λ (r : Row). column r 3) value_cmp_total) kept))

module _ (db : Database) where
  pub sees_top : (rows : List Row) → HasTop db.trees rows
      → IfOk (top_of (seen_only rows)) (SeesTop db)
  sees_top rows shown =
      if_ok (top_of (seen_only rows)) _ _
      (λ node is. sym (map_front (filter is_top (db.trees 0))) ∙ sym (ap (map node_in) shown) ∙ is)
      (top_whole rows)
    where
      map_front : (kept : List Row)
          → map node_in (take 1 (map shown_node kept))
          ≡ map (λ r. node_in (shown_node r)) (take 1 kept)
      map_front [] = refl
      map_front (r ∷ kept) = refl

  module _ (parent : ℕ) where
    pub sees_named : (name : List ℕ) (rows : List Row)
        → IsPermutation
        (map shown_node (filter (is_child_named (pos parent) name) (db.trees 0))) rows
        → IfOk (result_of_seen (seen_only rows)) (SeesNamed parent name db)
    sees_named name rows moved =
        let kept = filter (is_child_named (pos parent) name) (db.trees 0) in
        if_ok (result_of_seen (seen_only rows)) _ _
        (search (rules, empty_moved, kept, moved, empty_map))
        (only_whole rows)

    pub sees_some : (rows : List Row) → HasSome (pos parent) db.trees rows
        → SeesSome parent db (not (length rows == 0))
    sees_some rows (all, moved, is) = grind (arith, nat_tests, empty_first, empty_map, empty_moved)

    pub sees_under : (rows : List Row) → HasUnder (pos parent) db.trees rows
        → IfOk (result_of_seen (seen_behind node_in [] rows)) (SeesEach parent db)
    sees_under rows shown =
        if_ok (result_of_seen (seen_behind node_in [] rows)) _ _
        (search (rules, sorted_whole, pos, shown))
        (behind_whole node_in [] rows)

    pub sees_names : (rows : List Row) → HasNames (pos parent) db.trees rows
        → IfOk (result_of_seen (seen_behind named_in [] rows)) (SeesEach parent db)
    sees_names rows shown =
        if_ok (result_of_seen (seen_behind named_in [] rows)) _ _
        (search (rules, sorted_whole, pos, shown))
        (behind_whole named_in [] rows)
