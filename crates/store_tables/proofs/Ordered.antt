-- The rows of a query over one table, in the order of one column or cut off after the first.
use Rattle.std.proofs.Common.{rules, ◌≡◌, ℕ, List, [], ◌∷◌, map, filter, false, refl, ap, subst}
use Rattle.std.proofs.Common.{◌∙◌, Ordering, Less, is_gt, is_eq, IsPermutation, arith}
use Rattle.std.proofs.lemmas.{Bool.{cond-false, Decides.nat_tests}, List.Sorted.IsPermutation-map}
use Rattle.std.specs.List.{AllByRecursion}
use Rattle.sqlite.specs.{declared.types.Value.TheVariants.Null, Order.{Row, column, value_cmp}}
use Rattle.sqlite.specs.{Query.{Query, Output, output, output_cmp, page, IsAnswerAs}, Term.Term}
use Rattle.sqlite.specs.Tree.{Trees}
use Rattle.sqlite_keyed.{specs.Lists.{insert_sorted, sort_by}, proofs.ListLemmas.map-map}
use Rattle.sqlite_keyed.proofs.ListLemmas.{ascending-map, ascending_weaker}
use Rattle.sqlite_keyed.proofs.SortLemmas.{sorted_is-sort_by, sort_by-map}
use Rattle.sqlite_sql.proofs.QueryLemmas.{output_cmp_total}
use Rattle.sqlite_trees.specs.Tree.{IsAscending}
use Rattle.sqlite_value.{specs.declared.keys.Key.Key, proofs.OrderLemmas.then-Equal}
use Rattle.store_tables.{specs.Statements.by_column, proofs.Answers.{each_way, passes, shows, way}}
use Rattle.store_tables.proofs.Texts.{ascending_by, query_of}

first_stays : {X : Type 0} (cmp : X → X → Ordering) (x : X) (xs : List X)
    → AllByRecursion (λ y. cmp x y ≡ Less) xs → insert_sorted cmp x xs ≡ x ∷ xs
first_stays cmp x [] up = refl
first_stays cmp x (y ∷ ys) up = cond-false _ _ _ (ap is_gt up.0)

-- what rises is in order
pub already_sorted : {X : Type 0} (cmp : X → X → Ordering) (xs : List X)
    → IsAscending (λ a b. cmp a b ≡ Less) xs → sort_by cmp xs ≡ xs
already_sorted cmp [] up = refl
already_sorted cmp (x ∷ xs) up = search (first_stays, already_sorted cmp xs up.1)

-- the same query with this LIMIT
abbrev pub cut_to : Term → Query → Query
cut_to limit q = record q { limit = limit }

module _ (tree : ℕ) (tests terms : List Term) (order : List (Term × Key)) (limit : Term)
    (db : Trees) (params : Row) (rows : List Row)
    (a : IsAnswerAs Null (cut_to limit (query_of tree tests terms order)) db params rows) where
  abbrev asked : Query
  asked = cut_to limit (query_of tree tests terms order)

  abbrev out : Row → Output
  out r = output asked (way params r)

  abbrev kept : List Row
  kept = filter (passes tests params) (db tree)

  kept_are : a.kept ≡ map out kept
  kept_are =
      a.distinct ∙ ap (map (output asked)) (a.grouped ∙ each_way Null db tests params (db tree))
      ∙ map-map (output asked) (way params) kept

  -- the rows that pass, in any order, and then cut
  pub cut : (all : List Row) × IsPermutation (map (shows terms params) kept) all
      × (rows ≡ page asked params all)
  cut =
      let all = IsPermutation-map (λ (o : Output). o.1) a.kept a.ordered a.same in
      search (rules, kept_are, map-map)

-- no two are equal
abbrev pub HasNoTies : {X : Type 0} → (X → X → Ordering) → List X → Type 0
HasNoTies cmp xs = IsAscending (λ a b. is_eq (cmp a b) ≡ false) xs

module _ (tree place : ℕ) (tests terms : List Term) (limit : Term) (db : Trees) (params : Row)
    (rows : List Row)
    (a : IsAnswerAs Null
    (cut_to limit (query_of tree tests terms (ascending_by place ∷ []))) db params rows) where
  abbrev question : Query
  question = cut_to limit (query_of tree tests terms (ascending_by place ∷ []))

  abbrev shown : Row → Output
  shown r = output question (way params r)

  abbrev passing : List Row
  passing = filter (passes tests params) (db tree)

  compared : (r s : Row) → output_cmp question (shown r) (shown s) ≡ by_column place r s
  compared r s = then-Equal (value_cmp (column r place) (column s place))

  passing_are : a.kept ≡ map shown passing
  passing_are =
      a.distinct ∙ ap (map (output question)) (a.grouped ∙ each_way Null db tests params (db tree))
      ∙ map-map (output question) (way params) passing

  -- the rows that pass, in order, where no two of them are equal in that column
  pub in_order : HasNoTies (by_column place) passing
      → rows ≡ page question params (map (shows terms params) (sort_by (by_column place) passing))
  in_order apart =
      let apart' = ascending-map (λ x y. is_eq (output_cmp question x y) ≡ false) shown passing
      (search (rules, ascending_weaker, compared, apart)) in
      let ordered = sorted_is-sort_by (output_cmp question) (output_cmp_total question)
      (map shown passing) a.ordered apart'
      (subst (λ l. IsPermutation l a.ordered) passing_are a.same) a.sorted
      ∙ sort_by-map (output_cmp question) shown passing
      ∙ (λ i. map shown (sort_by (λ r s. compared r s i) passing)) in
      grind (arith, nat_tests, map-map)

  -- the same, where the table has them in that order already
  pub as_stored : IsAscending (λ r s. by_column place r s ≡ Less) passing
      → rows ≡ page question params (map (shows terms params) passing)
  as_stored up = grind (arith, nat_tests, already_sorted, ascending_weaker, in_order, shows)
