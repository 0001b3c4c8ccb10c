-- What an answer of a query over one table has, and in which order.
use Rattle.std.proofs.Common.{arith, ◌≡◌, ℕ, List, [], ◌∷◌, map, filter, flat_map, Bool, refl, sym}
use Rattle.std.proofs.{Common.{ap, subst, ◌∙◌}, lemmas.List.Sorted.IsPermutation-map}
use Rattle.std.specs.List.{list_all, Sorted.IsPermutation}
use Rattle.sqlite.specs.{declared.types.Value.Value, Order.Row, Tree.Trees, Query.{Query, Output}}
use Rattle.sqlite.specs.{Query.{output, matches_as, end, IsAnswerAs}, Term.{Term, Env, holds}}
use Rattle.sqlite.specs.Term.{eval_all}
use Rattle.sqlite_value.specs.declared.keys.Key.{Key}
use Rattle.store_tables.proofs.Texts.{query_of}

-- whether a row of the table meets all tests of WHERE, with these parameters
abbrev pub passes : List Term → Row → Row → Bool
passes tests params r = list_all (holds (params ∷ r ∷ [])) tests

-- the row of an answer that a query over one table makes of a row of that table, by its terms
abbrev pub shows : List Term → Row → Row → Row
shows terms params r = eval_all terms (params ∷ r ∷ [])

-- where a term is evaluated: `col 0` reads the parameters, `col 1` the row of the one table
abbrev pub way : Row → Row → Env
way params r = params ∷ r ∷ []

-- a query over one table goes through just the rows that pass its tests, in their order
pub each_way : (lost : Value) (db : Trees) (tests : List Term) (params : Row) (rows : List Row)
    → flat_map (λ r. matches_as lost db tests end (way params r)) rows
    ≡ map (way params) (filter (passes tests params) rows)
each_way lost db tests params [] = refl
each_way lost db tests params (r ∷ rows) =
    grind (arith, params, lost, db, each_way lost db tests params rows)

outputs : (q : Query) (params : Row) (rows : List Row)
    → map (λ (o : Output). o.1) (map (output q) (map (way params) rows))
    ≡ map (shows q.project params) rows
outputs q params [] = refl
outputs q params (r ∷ rows) = ap (λ l. shows q.project params r ∷ l) (outputs q params rows)

module _ (lost : Value) (tree : ℕ) (tests terms : List Term) (order : List (Term × Key))
    (db : Trees) (params : Row) (rows : List Row)
    (a : IsAnswerAs lost (query_of tree tests terms order) db params rows) where
  kept_is : a.kept ≡ map (output (query_of tree tests terms order))
      (map (way params) (filter (passes tests params) (db tree)))
  kept_is =
      a.distinct ∙ ap (map (output (query_of tree tests terms order)))
      (a.grouped ∙ each_way lost db tests params (db tree))

  -- the rows that pass, as they are shown
  pub selected : IsPermutation
      (map (shows terms params) (filter (passes tests params) (db tree))) rows
  selected =
      let q = query_of tree tests terms order in
      let all = IsPermutation-map (λ (o : Output). o.1) a.kept a.ordered a.same in
      let from : map (λ (o : Output). o.1) a.kept
      ≡ map (shows terms params) (filter (passes tests params) (db tree)) =
      ap (map (λ (o : Output). o.1)) kept_is ∙ outputs q params _ in
      subst (λ l. IsPermutation l rows) from (subst (IsPermutation _) (sym a.shown) all)
