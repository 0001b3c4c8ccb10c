-- What the rows of one parent, in order of name, are read as.
use Rattle.std.proofs.Common.{rules, ◌≡◌, ℕ, pos, List, [], ◌∷◌, ◌++◌, map, filter, None, Some}
use Rattle.std.proofs.Common.{Option, Result, refl, sym, ap, ◌∙◌, true, false, Bool, cond}
use Rattle.std.proofs.Common.{append-nil, append_assoc, Ordering, is_gt, is_lt, inl, inr, arith}
use Rattle.std.proofs.lemmas.{Bool.{cond-false, Decides.nat_tests}, Cmp.nat_list_cmp_total}
use Rattle.std.proofs.lemmas.{Cmp.{on_total, upto}, List.Sorted.IsPermutation-sym}
use Rattle.std.specs.{List.{AllByRecursion, filter_map, cons_option}, Ordering.ordering_reverse}
use Rattle.std.specs.Cmp.{IsTotalOrder}
use Rattle.sqlite.specs.{declared.types.Value.{Value, TheVariants.Text}, Effect.Database, Order.Row}
use Rattle.sqlite.specs.{Order.column, Tree.rowid}
use Rattle.sqlite_keyed.specs.Lists.{insert_sorted, sort_by}
use Rattle.sqlite_keyed.proofs.SortLemmas.{IsPermutation-sort_by}
use Rattle.sqlite_rules.specs.Lists.{Has}
use Rattle.sqlite_trees.{proofs.ListLemmas.all-permutation, specs.Tree.IsAscending}
use Rattle.sqlite_value.proofs.OrderLemmas.{value_cmp-Text, value_cmp_total}
use Rattle.room_entry.proofs.Facts.Members.{each_weaker}
use Rattle.room_rows.specs.{declared.{keep.KeepFault.KeepFault, node.Node.Node}, Content.is_before}
use Rattle.room_rows.specs.{Content.{put_by_name, sorted_by_name}, Keep.AreChildrenOf}
use Rattle.room_rows.specs.{Keep.IsUnreadable, Rows.Rows}
use Rattle.store_tables.specs.{Filed.node_parts, Meaning.{node_in, number_in, rows_of, text_in}}
use Rattle.store_tables.specs.Seeing.{result_of_seen, seen_as, seen_behind, seen_then}
use Rattle.store_tables.specs.{Shown.{IsRoom, is_child, shown_node}, Statements.HasUnder}
use Rattle.store_tables.{specs.Statements.by_column, proofs.Named.{unread_row, utf8_is}}
use Rattle.store_tables.proofs.{Nodes.Tells, Rowids.{each_of, of_each}, Tops.children_read}
use Rattle.store_tables.proofs.Tops.{kept_from}

abbrev see : Row → Option Node
see r = node_in (shown_node r)

abbrev pub IsSeen : Row → Type 0
IsSeen r = (n : Node) × (see r ≡ Some n)

abbrev pub by_name : Row → Row → Ordering
by_name = by_column 3

-- ---- the order of rows is that of the objects

is_text : (v : Value) (t : List ℕ) → text_in v ≡ Some t → v ≡ Text t
is_text v t is = grind (arith, nat_tests, utf8_is)

turned : (o : Ordering) → is_gt o ≡ is_lt (ordering_reverse o)
turned o = grind (arith, nat_tests)

ordered_so : (r o : Row) (n m : Node) → see r ≡ Some n → see o ≡ Some m
    → is_gt (by_name r o) ≡ is_before m.name n.name
ordered_so r o n m is at =
    let a : column r 3 ≡ Text n.name = is_text (column r 3) n.name
    (node_parts (shown_node r) n is).name in
    let b : column o 3 ≡ Text m.name = is_text (column o 3) m.name
    (node_parts (shown_node o) m at).name in
    grind (arith, nat_tests, nat_list_cmp_total, turned, value_cmp-Text)

by_name_total : IsTotalOrder by_name
by_name_total = on_total (λ (r : Row). column r 3) value_cmp_total

-- the first may stand before the second
abbrev AtMost : Row → Row → Type 0
AtMost a b = is_gt (by_name a b) ≡ false

turned_back : (o : Ordering) → is_gt o ≡ true → is_gt (ordering_reverse o) ≡ false
turned_back o past = grind (arith, nat_tests)

insert_all : (P : Row → Type 0) (r : Row) (rows : List Row) → P r → AllByRecursion P rows
    → AllByRecursion P (insert_sorted by_name r rows)
insert_all P r [] here all = (here, tt)
insert_all P r (o ∷ rows) here all = grind (arith, nat_tests, insert_all P r rows here all.1)

insert_ascends : (r : Row) (rows : List Row) → IsAscending AtMost rows
    → IsAscending AtMost (insert_sorted by_name r rows)
insert_ascends r [] up = (tt, tt)
insert_ascends r (o ∷ rows) up =
    grind (
      arith,
      nat_tests,
      by_name_total,
      each_weaker,
      insert_all,
      turned_back,
      upto,
      insert_ascends r rows up.1,
    )

ascends : (rows : List Row) → IsAscending AtMost (sort_by by_name rows)
ascends [] = tt
ascends (r ∷ rows) = insert_ascends r (sort_by by_name rows) (ascends rows)

-- ---- rows that are read, in order, are the objects in order

module _ (r : Row) (n : Node) (is : see r ≡ Some n) where
  put_before : (rows : List Row) → AllByRecursion (AtMost r) rows
      → put_by_name n (filter_map see rows) ≡ n ∷ filter_map see rows
  put_before [] all = refl
  put_before (o ∷ rows) all = by (see o) refl (put_before rows all.1)
    where
      by : (m : Option Node) → see o ≡ m
          → put_by_name n (filter_map see rows) ≡ n ∷ filter_map see rows
          → put_by_name n (cons_option m (filter_map see rows))
          ≡ n ∷ cons_option m (filter_map see rows)
      by None at more = more
      by (Some m) at more = cond-false _ _ _ (sym (ordered_so r o n m is at) ∙ all.0)

  behind_step : (o : Row) (rest kept : List Node) → is_gt (by_name r o) ≡ true
      → kept ≡ put_by_name n rest → (m : Option Node) → see o ≡ m
      → cons_option m kept ≡ put_by_name n (cons_option m rest)
  behind_step o rest kept past more m at = grind (arith, nat_tests, ordered_so)

  insert_read : (rows : List Row) → IsAscending AtMost rows
      → filter_map see (insert_sorted by_name r rows) ≡ put_by_name n (filter_map see rows)
  insert_read [] up = ap (λ o. cons_option o []) is
  insert_read (o ∷ rows) up = by (is_gt (by_name r o)) refl (insert_read rows up.1)
    where
      by : (b : Bool) → is_gt (by_name r o) ≡ b
          → filter_map see (insert_sorted by_name r rows) ≡ put_by_name n (filter_map see rows)
          → filter_map see (cond b (o ∷ insert_sorted by_name r rows) (r ∷ o ∷ rows))
          ≡ put_by_name n (filter_map see (o ∷ rows))
      by true past more = search (behind_step)
      by false first more =
          ap (λ x. cons_option x (filter_map see (o ∷ rows))) is
          ∙ sym (put_before (o ∷ rows) (
            first,
            each_weaker (AtMost o) (AtMost r) (λ x. upto by_name_total r o x first) rows up.0,
          ))

insert_unseen : (r : Row) → see r ≡ None → (rows : List Row)
    → filter_map see (insert_sorted by_name r rows) ≡ filter_map see rows
insert_unseen r is [] = ap (λ o. cons_option o []) is
insert_unseen r is (o ∷ rows) = grind (arith, nat_tests, insert_unseen r is rows)

-- the rows in order of name, without those that can't be read, are the objects in order of name
pub sorted_read : (rows : List Row)
    → filter_map see (sort_by by_name rows) ≡ sorted_by_name (filter_map see rows)
sorted_read [] = refl
sorted_read (r ∷ rows) = by (see r) refl (sorted_read rows)
  where
    by : (o : Option Node) → see r ≡ o
        → filter_map see (sort_by by_name rows) ≡ sorted_by_name (filter_map see rows)
        → filter_map see (sort_by by_name (r ∷ rows))
        ≡ sorted_by_name (cons_option o (filter_map see rows))
    by o is more = grind (arith, nat_tests, ascends, insert_read, insert_unseen)

-- a row stands in the order if it stands in the rows
pub sorted_from : (rows : List Row) (r : Row) → Has (sort_by by_name rows) r → Has rows r
sorted_from rows =
    of_each (λ r. Has rows r) (sort_by by_name rows)
    (all-permutation (λ r. Has rows r) rows (sort_by by_name rows)
    (IsPermutation-sym (sort_by by_name rows) rows
    (IsPermutation-sort_by by_name by_name_total rows))
    (each_of (λ r. Has rows r) rows (λ r there. there)))

-- ---- one row after the other

abbrev AreRead : List Node → List Row → Rows → List Node → Type 0
AreRead done rows told nodes = nodes ≡ done ++ filter_map see rows

pub tells_by : {X : Type 0} (Blames : Rows → ℕ → Type 0) (A B : Rows → X → Type 0) (rows : Rows)
    → ((x : X) → A rows x → B rows x) → (r : Result X KeepFault) → Tells Blames A rows r
    → Tells Blames B rows r
tells_by Blames A B rows f r t = grind (arith, nat_tests)

module _ (db : Database) (room : IsRoom db) where
  read_step : (done : List Node) (r : Row) (rows : List Row) → Has (db.trees 0) r
      → ((before : List Node)
      → Tells IsUnreadable (AreRead before rows) (rows_of db)
      (result_of_seen (seen_behind node_in before (map shown_node rows))))
      → (o : Option Node) → see r ≡ o → (m : Option ℕ) → number_in (rowid r) ≡ m
      → Tells IsUnreadable (AreRead done (r ∷ rows)) (rows_of db)
      (result_of_seen (seen_then (seen_as o m)
      (λ before. seen_behind node_in before (map shown_node rows)) done))
  read_step done r rows there more (Some n) seen m number =
      search (rules, tells_by, r, append_assoc, seen, more)
  read_step done r rows there more None seen None number = tt
  read_step done r rows there more None seen (Some id) number = search (unread_row)

  reads : (rows : List Row) → ((r : Row) → Has rows r → Has (db.trees 0) r) → (done : List Node)
      → Tells IsUnreadable (AreRead done rows) (rows_of db)
      (result_of_seen (seen_behind node_in done (map shown_node rows)))
  reads [] within done = sym (append-nil done)
  reads (r ∷ rows) within done =
      read_step done r rows (within r (inl refl)) (reads rows (λ x there. within x (inr there)))
      (see r) refl (number_in (rowid r)) refl

  abbrev under : ℕ → List Row
  under parent = filter (is_child (pos parent)) (db.trees 0)

  pub sorted_within : (parent : ℕ) (r : Row) → Has (sort_by by_name (under parent)) r
      → Has (db.trees 0) r
  sorted_within parent r there = search (kept_from, sorted_from)

  pub tells_under : (parent : ℕ) (rows : List Row) → HasUnder (pos parent) db.trees rows
      → Tells IsUnreadable (AreChildrenOf parent) (rows_of db)
      (result_of_seen (seen_behind node_in [] rows))
  tells_under parent rows shown =
      grind (arith, nat_tests, children_read, reads, sorted_read, sorted_within, tells_by)
