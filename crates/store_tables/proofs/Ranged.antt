-- What is left where the rows of a range of numbers are written by one statement.
use Rattle.std.proofs.Common.{rules, ◌≡◌, ℕ, ℤ, List, [], ◌∷◌, Bool, true, false, not, length, map}
use Rattle.std.proofs.Common.{filter, drop, Ok, IsTrue, inl, inr, refl, sym, ap, subst, ◌∙◌, arith}
use Rattle.std.proofs.{Common.if◌then◌else◌, lemmas.Bool.{cases_Bool, cond-false, cond-true}}
use Rattle.std.proofs.lemmas.{Bool.Decides.nat_tests, Cmp.tied_itself}
use Rattle.std.{proofs.lemmas.List.Sorted.IsPermutation-sym, specs.Prelude.◌==◌}
use Rattle.std.specs.List.{AllByRecursion, filter_map, flat_map, list_any, Sorted.IsPermutation}
use Rattle.std.specs.{Ordering.is_eq, declared.cmp.Ordering.TheVariants.Less}
use Rattle.sqlite.specs.{declared.types.Value.TheVariants.{Null, Int}, Cast.cast_row, Edit.taken_by}
use Rattle.sqlite.specs.{Effect.Database, Listing.understood, Order.{Row, value_cmp}, Rows.Edited}
use Rattle.sqlite.specs.{State.{Executes, State}, Term.Term, Tree.{IsTable, Trees, has_rowid}}
use Rattle.sqlite.{specs.Tree.{rowid, without_rowid}, proofs.Callers.{IsPlain, command_of}}
use Rattle.sqlite_keyed.proofs.ListLemmas.{ascending-map, ascending_weaker}
use Rattle.sqlite_rules.specs.{Action.{deed_for, loses, pairs, work_by, works}, Calls.ids_of}
use Rattle.sqlite_rules.specs.Edit.{are_fresh, id_in, left_by, put_all, row_at, without_all}
use Rattle.sqlite_rules.{specs.Lists.Has, proofs.ListLemmas.{all_from, all_has, has_filtered}}
use Rattle.sqlite_rules.proofs.{ListLemmas.has_kept, PlaceLemmas.{given, left_or_taken, row_at_is}}
use Rattle.sqlite_rules.proofs.{ProbeLemmas.{has_mapped, mapped_has}, TableLemmas.int_is}
use Rattle.sqlite_rules.proofs.TableLemmas.{put_all_adds, put_all_has, put_all_keeps}
use Rattle.sqlite_rules.proofs.TableLemmas.{without_all_has}
use Rattle.sqlite_schema.specs.{Rules.parent_key, declared.schema.Keys.TheVariants.Enforced}
use Rattle.sqlite_sql.specs.Ops.{binary}
use Rattle.sqlite_tied.specs.Compute.{everything}
use Rattle.sqlite_trees.{specs.View.{IsShaped, is_int}, proofs.ListLemmas.all-permutation}
use Rattle.sqlite_trees.proofs.TreeLemmas.{IsShaped-filter, IsTable-put_row}
use Rattle.sqlite_value.{specs.Keys.plain, proofs.OrderLemmas.value_cmp_total}
use Rattle.room_entry.proofs.Facts.Lists.{filter_same}
use Rattle.store_tables.specs.{Printed.KeepsPrinted, Shown.{IsRoom, RecastsAll, is_in_range}}
use Rattle.store_tables.{specs.{Shown.recast_in, Tables.room_schema}, proofs.Actions.ends}
use Rattle.store_tables.proofs.{Answers.shows, Calls.retains_by, Executed.WritesRoom}
use Rattle.store_tables.proofs.{Printed.{WritesPrinted, keeps_each}, RangeTexts.range_tests}
use Rattle.store_tables.proofs.{Recast.{Rewritten, cast_head, recast, rewritten}, Rowids.cells_of}
use Rattle.store_tables.proofs.{Rowids.{has_itself, of_each}, Tests.passes_range}
use Rattle.store_tables.proofs.{Texts.updates_where, Updates.update_edit, Writes.nodes_table}
use Rattle.sqlite_trees.specs.declared.store.Shape.TheVariants as Shape

-- ---- rows in the order of their numbers

-- what has a permutation's member has it
has_again : {X : Type 0} (xs ys : List X) (x : X) → IsPermutation xs ys → Has ys x → Has xs x
has_again xs ys x same =
    all_has (Has xs) ys x (all-permutation (Has xs) xs ys same (all_from (Has xs) xs (λ e h. h)))

not_both : (a b : Row) → value_cmp (rowid a) (rowid b) ≡ Less
    → value_cmp (rowid b) (rowid a) ≡ Less → ⊥
not_both a b p q = grind (arith, nat_tests, value_cmp_total)

not_itself : (a : Row) → value_cmp (rowid a) (rowid a) ≡ Less → ⊥
not_itself a p = absurd (let e = sym p ∙ tied_itself value_cmp_total (rowid a) in cc)

-- two tables with the same rows are the same
same_rows : (a b : List Row) → IsTable a → IsTable b → ((x : Row) → Has a x → Has b x)
    → ((x : Row) → Has b x → Has a x) → a ≡ b
same_rows [] [] up up' on back = refl
same_rows [] (y ∷ ys) up up' on back = absurd (back y (inl refl))
same_rows (x ∷ xs) [] up up' on back = absurd (on x (inl refl))
same_rows (x ∷ xs) (y ∷ ys) up up' on back =
    (λ i. head i ∷ xs) ∙ ap (λ l. y ∷ l) (same_rows xs ys up.1 up'.1 later earlier)
  where
    head : x ≡ y
    head = elim (on x (inl refl)) [
      | inl e ↦ e
      | inr there ↦ elim (back y (inl refl)) [
        | inl e ↦ sym e
        | inr here ↦
            absurd (not_both x y (of_each _ xs up.0 y here) (of_each _ ys up'.0 x there))
      ]
    ]

    later : (z : Row) → Has xs z → Has ys z
    later z here = grind (arith, nat_tests, head, not_itself, of_each)

    earlier : (z : Row) → Has ys z → Has xs z
    earlier z there = grind (arith, nat_tests, head, not_itself, of_each)

left_shaped : (ids : List ℤ) (rows : List Row) → IsShaped Shape.Table rows
    → IsShaped Shape.Table (without_all rows ids)
left_shaped [] rows shaped = shaped
left_shaped (id ∷ ids) rows shaped =
    left_shaped ids (without_rowid id rows)
    (IsShaped-filter Shape.Table (λ r. not (has_rowid id r)) rows shaped)

put_table : (news rows : List Row) → IsTable rows → IsTable (put_all rows news)
put_table [] rows up = up
put_table (r ∷ news) rows up = put_table news _ (IsTable-put_row r rows up)

not_gone : (id : ℤ) (x : Row) → has_rowid id x ≡ true → not (has_rowid id x) ≡ true → ⊥
not_gone id x is isnt = absurd (cc)

-- a row that was taken out isn't left
gone_all : (ids : List ℤ) (rows : List Row) (x : Row) (id : ℤ) → Has ids id
    → has_rowid id x ≡ true → Has (without_all rows ids) x → ⊥
gone_all (i ∷ ids) rows x id (inl e) is left =
    grind (arith, nat_tests, has_filtered, not_gone, without_all_has)
gone_all (i ∷ ids) rows x id (inr more) is left =
    gone_all ids (without_rowid i rows) x id more is left
gone_all [] rows x id none is left = absurd none

-- ---- rows that keep their numbers have no children to spare

keeps_one : (id : ℤ) (old new : Row)
    → loses plain (0 ∷ []) (Int id ∷ old, Int id ∷ new) ≡ false
unfolding everything binary
keeps_one id old new = let same = has_itself id in rw same refl

spares : (b : Bool) (olds news : List Row)
    → list_any (loses plain (0 ∷ [])) (pairs olds news) ≡ false
    → flat_map (λ child. filter_map (λ ref. work_by 0 0 (pairs olds news) child ref
    (deed_for Enforced b ref) (parent_key room_schema.tables ref)) child.references)
    room_schema.tables ≡ []
unfolding everything
spares true olds news none = rw none refl
spares false olds news none = rw none refl

-- ---- rows that keep their numbers

module _ (change : Row → Row) (first last : ℤ) where
  abbrev into : Row → Row
  into = recast_in change first last

  keeps_rowid : (r : Row) → rowid (into r) ≡ rowid r
  keeps_rowid r = grind (arith, nat_tests, recast)

  keep_ints : (rows : List Row) → AllByRecursion (λ r. IsTrue (is_int (rowid r))) rows
      → AllByRecursion (λ r. IsTrue (is_int (rowid r))) (map into rows)
  keep_ints [] all = tt
  keep_ints (r ∷ rows) all = (ap is_int (keeps_rowid r) ∙ all.0, keep_ints rows all.1)

  mapped_shaped : (rows : List Row) → IsShaped Shape.Table rows
      → IsShaped Shape.Table (map into rows)
  mapped_shaped rows shaped = search (ascending-map, ascending_weaker, keep_ints, keeps_rowid)

-- ---- the rows that are found

module _ (change : Row → Row) (first last : ℤ) (terms : List Term) (params : Row)
    (gives : (r : Row) → shows terms params r ≡ rowid r ∷ rowid r ∷ Null ∷ change r)
    (db next : Trees) (nodes : IsShaped Shape.Table (db 0)) (rows : List Row)
    (found : IsPermutation (map (shows terms params) (filter (is_in_range first last) (db 0)))
    rows) where
  abbrev inside : List Row
  inside = filter (is_in_range first last) (db 0)

  abbrev to_row : Row → Row
  to_row = recast_in change first last

  -- the row of an answer that this row of the table makes
  record Shows (r x : Row) : Type 0 where
    id : ℤ
    there : Has (db 0) r
    within : is_in_range first last r ≡ true
    number : rowid r ≡ Int id
    is : x ≡ Int id ∷ Int id ∷ Null ∷ change r

  number_of : (r : Row) → Has (db 0) r → rowid r ≡ Int (id_in (rowid r))
  number_of r there = int_is (rowid r) (of_each _ (db 0) nodes.1 r there)

  shown : (r : Row) → Has (db 0) r → is_in_range first last r ≡ true
      → Shows r (shows terms params r)
  shown r there within = grind (arith, nat_tests, number_of)

  source : (x : Row) → Has rows x → (r : Row) × Shows r x
  source x there =
      let from = has_mapped (shows terms params) inside x (has_again _ rows x found there) in
      search (rules, has_filtered, from.0, from.1, from.2, shown)

  answered : (r : Row) → Has (db 0) r → is_in_range first last r ≡ true
      → Has rows (shows terms params r)
  answered r there within =
      has_again rows (map (shows terms params) inside) (shows terms params r)
      (IsPermutation-sym _ rows found)
      (mapped_has (shows terms params) inside r
      (has_kept (is_in_range first last) (db 0) r there within))

  -- what the edit makes of a row of the answer
  abbrev new_of : Row → Row
  new_of x = cast_row nodes_table (drop 1 x)

  news_are : (update_edit db rows).news ≡ map new_of rows
  news_are = given _ (map new_of rows)

  cast_is : (r x : Row) (s : Shows r x) → new_of x ≡ Int s.id ∷ Null ∷ recast (change r)
  cast_is r x s = ap (λ l. cast_row nodes_table (drop 1 l)) s.is ∙ cast_head s.id (change r)

  new_is : (r x : Row) (s : Shows r x) → new_of x ≡ to_row r
  new_is r x s =
      cast_is r x s ∙ sym (ap (λ v. v ∷ Null ∷ recast (change r)) s.number)
      ∙ sym (cond-true (is_in_range first last r) (rowid r ∷ Null ∷ recast (change r)) r s.within)

  old_is : (r x : Row) (s : Shows r x) → row_at (db 0) (id_in (rowid x)) ≡ r
  old_is r x s = grind (arith, nat_tests, has_itself, row_at_is)

  none_lost : (xs : List Row) → ((x : Row) → Has xs x → (r : Row) × Shows r x)
      → list_any (loses plain (0 ∷ [])) (pairs (map (row_at (db 0)) (ids_of xs)) (map new_of xs))
      ≡ false
  none_lost [] from = refl
  none_lost (x ∷ xs) from =
      let it = from x (inl refl) in
      let old = old_is it.0 x it.1 ∙ cells_of it.1.id it.0 it.1.number in
      let this : loses plain (0 ∷ []) (row_at (db 0) (id_in (rowid x)), new_of x) ≡ false =
      cc (
        old,
        cast_is it.0 x it.1,
        keeps_one it.1.id (drop 1 it.0) (Null ∷ recast (change it.0)),
      ) in
      cc (this, none_lost xs (λ y there. from y (inr there)))

  -- ---- what the edit leaves

  stays : (r : Row) → is_in_range first last r ≡ false → to_row r ≡ r
  stays r isnt = cond-false (is_in_range first last r) (rowid r ∷ Null ∷ recast (change r)) r isnt

  apart : (b : Bool) → b ≡ true → b ≡ false → ⊥
  apart b is isnt = absurd (cc)

  in_edited : (x : Row) → Has (put_all (left_by db (update_edit db rows)) (map new_of rows)) x
      → Has (map to_row (db 0)) x
  in_edited x there =
      elim (put_all_has (map new_of rows) (left_by db (update_edit db rows)) x there) [
        | inl new ↦
            let from = has_mapped new_of rows x new in
            let it = source from.0 from.1 in
            subst (Has (map to_row (db 0))) (sym (from.2 ∙ new_is it.0 from.0 it.1))
            (mapped_has to_row (db 0) it.0 it.1.there)
        | inr old ↦
            let was = without_all_has (ids_of rows) (db 0) x old in
            elim (cases_Bool (is_in_range first last x)) [
              | inl within ↦
                  let s = shown x was within in
                  let id = mapped_has (λ r. id_in (rowid r)) rows (shows terms params x)
                  (answered x was within) in
                  absurd (gone_all (ids_of rows) (db 0) x s.id
                  (subst (Has (ids_of rows)) (ap (λ l. id_in (rowid l)) s.is) id)
                  (ap (λ v. is_eq (value_cmp v (Int s.id))) s.number ∙ has_itself s.id) old)
              | inr isnt ↦
                  subst (Has (map to_row (db 0))) (stays x isnt) (mapped_has to_row (db 0) x was)
            ]
      ]

  is_edited : are_fresh (left_by db (update_edit db rows)) (map new_of rows) ≡ true → (x : Row)
      → Has (map to_row (db 0)) x
      → Has (put_all (left_by db (update_edit db rows)) (map new_of rows)) x
  is_edited fresh x there =
      let from = has_mapped to_row (db 0) x there in
      let r = from.0 in
      elim (cases_Bool (is_in_range first last r)) [
        | inl within ↦
            subst (Has (put_all (left_by db (update_edit db rows)) (map new_of rows)))
            (new_is r (shows terms params r) (shown r from.1 within) ∙ sym from.2)
            (put_all_adds (map new_of rows) (left_by db (update_edit db rows)) _ fresh
            (mapped_has new_of rows (shows terms params r) (answered r from.1 within)))
        | inr isnt ↦
            subst (Has (put_all (left_by db (update_edit db rows)) (map new_of rows)))
            (sym (from.2 ∙ stays r isnt))
            (elim (left_or_taken (db 0) (ids_of rows) r nodes.0 from.1) [
              | inl old ↦ search (rules, put_all_keeps, fresh, old)
              | inr taken ↦
                  let at = has_mapped (row_at (db 0)) (ids_of rows) r taken in
                  let by = has_mapped (λ y. id_in (rowid y)) rows at.0 at.1 in
                  let it = source by.0 by.1 in
                  let same : r ≡ it.0 = at.2 ∙ ap (row_at (db 0)) by.2 ∙ old_is it.0 by.0 it.1 in
                  search (rules, apart, r, same, it.1.within, isnt)
            ])
      ]

  edited_is : are_fresh (left_by db (update_edit db rows)) (map new_of rows) ≡ true
      → put_all (left_by db (update_edit db rows)) (map new_of rows) ≡ map to_row (db 0)
  edited_is fresh =
      search (rules, same_rows, put_table, left_shaped, mapped_shaped, in_edited, is_edited, fresh)

  pub all_recast : Edited room_schema Enforced db (update_edit db rows) (Ok next)
      → RecastsAll change first last db next
  all_recast (inl refused) = absurd (cc)
  all_recast (inr (inl big)) = absurd (cc)
  all_recast (inr (inr went)) =
      let start = went.0 in
      let work = ap (works room_schema Enforced 0 0 (taken_by db (update_edit db rows))) news_are
      ∙ spares (length (map new_of rows) == 0) (map (row_at (db 0)) (ids_of rows))
      (map new_of rows) (none_lost rows source) in
      search (rules, went.2.0, start, work, went.2.1, ends, edited_is, news_are, update_edit)

-- ---- the statement

module _ (text : List ℕ) (terms : List Term)
    (is : command_of (understood room_schema text) ≡ updates_where range_tests terms)
    (plain_text : IsPlain (understood room_schema text)) (first last : ℤ) (given_then : Row)
    (change : Row → Row)
    (gives : (r : Row) → shows terms (Int first ∷ Int last ∷ given_then) r
    ≡ rowid r ∷ rowid r ∷ Null ∷ change r) where
  abbrev params : Row
  params = Int first ∷ Int last ∷ given_then

  ranged : (old new : State) (count : ℕ) → IsRoom old.now
      → Rewritten range_tests terms params old new count
      → RecastsAll change first last old.now.trees new.now.trees
  ranged old new count room d =
      subst (RecastsAll change first last old.now.trees)
      (sym (ap (λ (db : Database). db.trees) d.now))
      (all_recast change first last terms params gives old.now.trees d.next room.nodes d.rows
      (subst (λ l. IsPermutation (map (shows terms params) l) d.rows)
      (filter_same _ _ (passes_range first last given_then) (old.now.trees 0)) d.found) d.edited)

  -- the tables are still rooms tables, and nothing is committed
  pub range_room : WritesPrinted change → (old new : State) → IsTrue old.in_transaction
      → (count : ℕ) → Executes text params old new (Ok count) → IsRoom old.now
      → WritesRoom old new
  range_room printed old new within count h room =
      let d = rewritten text range_tests terms is plain_text params old new count room.schema h in
      let it = ranged old new count room d in (
        d.shown.committed_is ∙ ap (λ b. if b then old.committed else new.now) within,
        grind (arith, nat_tests, mapped_shaped),
        d.shown.mode ∙ within,
        retains_by _ _ it.meta it.audits it.counters
            (subst (KeepsPrinted (old.now.trees 0)) (sym it.nodes)
            (keeps_each old.now room change printed first last)),
      )

  -- the rows of the range are written
  pub range_rows : (old new : State) (count : ℕ) → IsRoom old.now
      → Executes text params old new (Ok count)
      → RecastsAll change first last old.now.trees new.now.trees
  range_rows old new count room h =
      ranged old new count room
      (rewritten text range_tests terms is plain_text params old new count room.schema h)
