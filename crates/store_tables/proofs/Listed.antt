-- What reading the names of children answers, and reading one of them.
use Rattle.std.proofs.Common.{rules, ◌≡◌, ℕ, zero, suc, pos, negsuc, List, [], ◌∷◌, ◌++◌, map}
use Rattle.std.proofs.Common.{filter, take, length, None, Some, Option, IsTrue, inl, inr, refl, sym}
use Rattle.std.proofs.Common.{ap, subst, ◌∙◌, true, not, append-nil, append_assoc, arith, is_lt}
use Rattle.std.proofs.{Common.{IsPermutation, false}, lemmas.Bool.{and_parts, eq-eqb}}
use Rattle.std.proofs.lemmas.{Bool.Decides.nat_tests, List.Sorted.IsPermutation-sym}
use Rattle.std.{proofs.lemmas.Option.{none-some, same_Some}, specs.Prelude.{◌==◌, is_none}}
use Rattle.std.specs.{Prelude.{option_map, if◌then◌else◌}, List.{AllByRecursion, filter_map}}
use Rattle.std.specs.{List.{cons_option, Contains}, Option.option_map_or}
use Rattle.sqlite.specs.{declared.types.Value.{Value, TheVariants.Int}, Effect.Database, Order.Row}
use Rattle.sqlite.specs.{Order.{column, value_cmp}, Tree.rowid}
use Rattle.sqlite_keyed.specs.Lists.{sort_by}
use Rattle.sqlite_rules.{specs.Lists.Has, proofs.ListLemmas.{contains_had, has_filtered, has_kept}}
use Rattle.sqlite_trees.specs.View.{is_int}
use Rattle.sqlite_value.proofs.OrderLemmas.{value_cmp-Int}
use Rattle.room_entry.specs.declared.object.ObjKind.{ObjKind}
use Rattle.room_rows.specs.{declared.node.Node.Node, Content.{is_empty, sorted_by_name}}
use Rattle.room_rows.specs.Keep.{AreNamedUnder, HasChildren, IsMixed, IsUnreadable, unread_under}
use Rattle.room_rows.{specs.Rows.{Rows, Unread}, proofs.{Mixed.mixed_other, Lookups.put_is_some}}
use Rattle.store_tables.specs.{Filed.node_parts, Meaning.{named_in, node_in, number_in, rows_of}}
use Rattle.store_tables.specs.Meaning.{unread_in, unread_of, unread_with, whole_in}
use Rattle.store_tables.specs.{RoomRows.number_in-low, Seeing.{result_of_seen, seen_as}}
use Rattle.store_tables.specs.{Seeing.{seen_behind, seen_then}, Shown.{IsRoom, is_child}}
use Rattle.store_tables.specs.{Shown.{is_numbered, shown_node}, Statements.{HasNames, HasSome}}
use Rattle.store_tables.{specs.Statements.{shown_name, shown_number}, proofs.Apart.kept_passes}
use Rattle.store_tables.proofs.{Named.{no_map, unread_row}, Nodes.Tells, Rowids.{alone_in, each_of}}
use Rattle.store_tables.proofs.{Rowids.of_each, Tops.{children_read, kept_from}, Under.IsSeen}
use Rattle.store_tables.proofs.Under.{by_name, sorted_from, sorted_read, sorted_within, tells_by}
use Rattle.store_tables.proofs.Typed.{parent_whole}

abbrev Named : Type 0
Named = List ℕ × ObjKind

abbrev see : Row → Option Node
see r = node_in (shown_node r)

abbrev named : Row → Option Named
named r = named_in (shown_name r)

abbrev name_of : Node → Named
name_of n = (n.name, n.kind)

-- ---- where all rows can be read

-- an integer that isn't below 1 is a number
number_kept : (v : Value) → IsTrue (is_int v) → not (is_lt (value_cmp v (Int (pos 1)))) ≡ true
    → (id : ℕ) × (number_in v ≡ Some id)
number_kept (Int (pos zero)) int high = grind (arith, nat_tests, value_cmp-Int)
number_kept (Int (pos (suc n))) int high = (suc n, number_in-low (suc n) (omega arith))
number_kept (Int (negsuc n)) int high = grind (arith, nat_tests, value_cmp-Int)
number_kept _ int high = absurd (cc)

read_if : (o : Option Node) (m : Option Unread) (u : Unread) → m ≡ Some u
    → (if is_none o then m else None) ≡ None → (n : Node) × (o ≡ Some n)
read_if (Some n) m u is none = (n, refl)
read_if None m u is none = absurd (none-some u (sym none ∙ is))

nothing_of : {X : Type 0} (f : Row → Option X) (rows : List Row) → filter_map f rows ≡ []
    → (r : Row) → Has rows r → f r ≡ None
nothing_of f [] none r there = absurd there
nothing_of f (x ∷ rows) none r there = by (f x) refl none there (λ e. nothing_of f rows e r)
  where
    by : (o : Option _) → f x ≡ o → cons_option o (filter_map f rows) ≡ [] → Has (x ∷ rows) r
        → (filter_map f rows ≡ [] → Has rows r → f r ≡ None) → f r ≡ None
    by o is e there more = grind (arith, nat_tests)

-- what a row of a list is read as stands among what the list is read as
has_read : {A B : Type 0} (f : A → Option B) (xs : List A) (x : A) (y : B) → Has xs x
    → f x ≡ Some y → Has (filter_map f xs) y
has_read f [] x y there is = absurd there
has_read f (z ∷ xs) x y there is = by (f z) refl there (λ later. has_read f xs x y later is)
  where
    by : (o : Option _) → f z ≡ o → Has (z ∷ xs) x → (Has xs x → Has (filter_map f xs) y)
        → Has (cons_option o (filter_map f xs)) y
    by o at given more = grind (arith, nat_tests)

module _ (db : Database) (room : IsRoom db) where
  seen_there : (rows_of db).unreadable ≡ [] → (r : Row) → Has (db.trees 0) r → is_numbered r ≡ true
      → IsSeen r
  seen_there none r there numbered =
      let number = number_kept (rowid r) (of_each _ (db.trees 0) room.nodes.1 r there) numbered in
      read_if (see r) (option_map (unread_with r) (number_in (rowid r))) (unread_with r number.0)
      (ap (option_map (unread_with r)) number.1)
      (nothing_of unread_in (db.trees 0) none r there)

  abbrev under : ℕ → List Row
  under parent = filter (is_child (pos parent)) (db.trees 0)

  under_seen : (parent : ℕ) → (rows_of db).unreadable ≡ [] → AllByRecursion IsSeen (under parent)
  under_seen parent none =
      each_of IsSeen (under parent) (grind (arith, nat_tests, kept_from, kept_passes, seen_there))

-- ---- whether there is a child

module _ (db : Database) (room : IsRoom db) (parent : ℕ) where
  abbrev kept : List Row
  kept = filter (is_child (pos parent)) (db.trees 0)

  some_child : (rows all : List Row) → kept ≡ rows → AllByRecursion IsSeen rows
      → IsPermutation (map shown_number rows) all
      → (length (take 1 all) == 0) ≡ is_empty (sorted_by_name (filter_map see rows))
  some_child [] all is seen perm = ap (λ l. length (take 1 l) == 0) (alone_in all perm)
  some_child (r ∷ rows) [] is seen perm =
      absurd (let e = no_map shown_number (r ∷ rows)
      (alone_in (map shown_number (r ∷ rows))
      (IsPermutation-sym (map shown_number (r ∷ rows)) [] perm)) in cc)
  some_child (r ∷ rows) (x ∷ more) is seen perm = grind (arith, nat_tests, put_is_some)

  no_child : (rows all : List Row) → IsPermutation (map shown_number rows) all
      → not (length (take 1 all) == 0) ≡ false → sorted_by_name (filter_map see rows) ≡ []
  no_child [] all perm says = refl
  no_child (r ∷ rows) [] perm says =
      absurd (let e = no_map shown_number (r ∷ rows)
      (alone_in (map shown_number (r ∷ rows))
      (IsPermutation-sym (map shown_number (r ∷ rows)) [] perm)) in cc)
  no_child (r ∷ rows) (x ∷ more) perm says = absurd (let wrong : ⊥ = cc in wrong)

  pub tells_some : (rows : List Row) → HasSome (pos parent) db.trees rows
      → HasChildren parent (rows_of db) (not (length rows == 0))
  tells_some rows shown = grind (arith, nat_tests, children_read, no_child, some_child, under_seen)

  -- ---- names and kinds

  named_of : (r : Row) (n : Node) → see r ≡ Some n → named r ≡ Some (name_of n)
  named_of r n is =
      let parts = node_parts (shown_node r) n is in
      cc (parts.kind, parts.name)

  -- what has no name or no kind is no object
  not_named : (r : Row) (o : Option Node) → see r ≡ o → named r ≡ None → see r ≡ None
  not_named r None is none = is
  not_named r (Some n) is none = absurd (none-some (name_of n) (sym none ∙ named_of r n is))

  abbrev others : List Named
  others = unread_under parent (rows_of db)

  -- a row under the parent that isn't read as an object can't be read, and is told as it stands
  other_named : (r : Row) → Has kept r → see r ≡ None → (p : Named)
      → named r ≡ Some p → Contains others p
  other_named r there unseen p is =
      let row = has_filtered (is_child (pos parent)) (db.trees 0) r there in
      let parts = and_parts _ (is_numbered r) row.1 in
      let number = number_kept (rowid r) (of_each _ (db.trees 0) room.nodes.1 r row.0) parts.1 in
      let above : whole_in (column r 2) ≡ Some parent =
      ap whole_in (parent_whole db room r row.0 parent parts.0) in
      let read : unread_in r ≡ Some (unread_with r number.0) = grind (arith, nat_tests) in
      let stands = has_read unread_in (db.trees 0) r (unread_with r number.0) row.0 read in
      let under_it = ap (λ o. option_map_or (λ above. above == parent) o false) above
      ∙ eq-eqb parent parent refl in
      contains_had others p
      (has_read (λ (u : Unread). u.named)
      (filter (λ (u : Unread). option_map_or (λ above. above == parent) u.parent false)
      (unread_of (db.trees 0))) (unread_with r number.0) p
      (search (rules, has_kept, stands, under_it)) is)

  mixed_step : (r : Row) (rows : List Row) → Has kept r → (o : Option Node) → see r ≡ o
      → (q : Option Named) → named r ≡ q
      → IsMixed others (map name_of (filter_map see rows)) (filter_map named rows)
      → IsMixed others (map name_of (cons_option o (filter_map see rows)))
      (cons_option q (filter_map named rows))
  mixed_step r rows there (Some n) seen (Some p) is more =
      inl (same_Some p (name_of n) (sym is ∙ named_of r n seen), more)
  mixed_step r rows there (Some n) seen None is more =
      absurd (none-some (name_of n) (sym is ∙ named_of r n seen))
  mixed_step r rows there None unseen (Some p) is more = search (mixed_other, other_named)
  mixed_step r rows there None unseen None is more = more

  -- the names of rows are those of their objects, and of rows that can't be read
  names_mixed : (rows : List Row) → ((r : Row) → Has rows r → Has kept r)
      → IsMixed others (map name_of (filter_map see rows)) (filter_map named rows)
  names_mixed [] within = refl
  names_mixed (r ∷ rows) within =
      mixed_step r rows (within r (inl refl)) (see r) refl (named r) refl
      (names_mixed rows (λ x there. within x (inr there)))

  abbrev AreNamed : List Named → List Row → Rows → List Named → Type 0
  AreNamed done rows told names = names ≡ done ++ filter_map named rows

  name_step : (done : List Named) (r : Row) (rows : List Row) → Has (db.trees 0) r
      → ((before : List Named)
      → Tells IsUnreadable (AreNamed before rows) (rows_of db)
      (result_of_seen (seen_behind named_in before (map shown_name rows)))) → (o : Option Named)
      → named r ≡ o → (m : Option ℕ)
      → number_in (rowid r) ≡ m
      → Tells IsUnreadable (AreNamed done (r ∷ rows)) (rows_of db)
      (result_of_seen (seen_then (seen_as o m)
      (λ before. seen_behind named_in before (map shown_name rows)) done))
  name_step done r rows there more (Some p) is m number =
      search (rules, tells_by, r, append_assoc, is, more)
  name_step done r rows there more None is None number = tt
  name_step done r rows there more None is (Some id) number =
      unread_row db room r id there (not_named r (see r) refl is) number

  reads_names : (rows : List Row) → ((r : Row) → Has rows r → Has (db.trees 0) r)
      → (done : List Named)
      → Tells IsUnreadable (AreNamed done rows) (rows_of db)
      (result_of_seen (seen_behind named_in done (map shown_name rows)))
  reads_names [] within done = sym (append-nil done)
  reads_names (r ∷ rows) within done =
      name_step done r rows (within r (inl refl))
      (reads_names rows (λ x there. within x (inr there))) (named r) refl (number_in (rowid r)) refl

  pub tells_names : (rows : List Row) → HasNames (pos parent) db.trees rows
      → Tells IsUnreadable (AreNamedUnder parent) (rows_of db)
      (result_of_seen (seen_behind named_in [] rows))
  tells_names rows shown =
      subst (λ l. Tells IsUnreadable (AreNamedUnder parent) (rows_of db)
      (result_of_seen (seen_behind named_in [] l))) (sym shown)
      (tells_by IsUnreadable (AreNamed [] (sort_by by_name kept)) (AreNamedUnder parent)
      (rows_of db)
      (λ names read.
      subst (λ l. IsMixed others (map name_of l) names)
      (sorted_read kept ∙ sym (children_read db parent))
      (search (rules, by_name, names_mixed, sorted_from)))
      (result_of_seen (seen_behind named_in [] (map shown_name (sort_by by_name kept))))
      (reads_names (sort_by by_name kept) (sorted_within db room parent) []))
