-- What reading the root, or one child, answers.
use Rattle.std.proofs.Common.{◌≡◌, ℕ, pos, List, [], ◌∷◌, map, filter, take, None, Some, Option}
use Rattle.std.proofs.Common.{inl, refl, sym, ap, subst, ◌∙◌, true, Bool, ◌&&◌, arith, is_eq}
use Rattle.std.proofs.{Math.Bool.and-true, lemmas.Bool.Decides.nat_tests}
use Rattle.std.specs.{Prelude.{is_none, option_map}, List.filter_map}
use Rattle.sqlite.specs.{declared.types.Value.{Value, TheVariants.Null}, Order.{Row, column}}
use Rattle.sqlite.specs.{Order.value_cmp, Tree.rowid, Effect.Database}
use Rattle.sqlite_rules.specs.Lists.{Has}
use Rattle.sqlite_value.proofs.OrderLemmas.{value_cmp-Null, value_cmp-apart}
use Rattle.room_rows.specs.{declared.node.Node.Node, Content.{children_of, has_parent}}
use Rattle.room_rows.specs.{Content.sorted_by_name, Keep.{HasNoRoot, IsRootOf}}
use Rattle.store_tables.specs.{Filed.node_parts, Meaning.{node_in, number_in, parent_in, rows_of}}
use Rattle.store_tables.specs.{Seeing.{seen_as, seen_only, top_of}, Shown.{IsRoom, is_child}}
use Rattle.store_tables.specs.{Shown.{is_numbered, is_top, shown_node}, Statements.HasTop}
use Rattle.store_tables.proofs.Named.{at_least_one, filter_read, first_read, mapped, none_read}
use Rattle.store_tables.proofs.{Named.{parent_agrees, unread_row}, Nodes.Tells, Rowids.first_one}
use Rattle.store_tables.proofs.Rowids.{has_found}

abbrev see : Row → Option Node
see r = node_in (shown_node r)

numbered : (r : Row) (n : Node) → see r ≡ Some n → is_numbered r ≡ true
numbered r n is = grind (arith, nat_tests, at_least_one)

-- ---- the root

no_parent : (v : Value) (p : Option ℕ) → parent_in v ≡ Some p → is_none p ≡ is_eq (value_cmp v Null)
no_parent v p is = grind (arith, nat_tests, mapped, value_cmp-Null, value_cmp-apart)

top_agrees : (r : Row) (n : Node) → see r ≡ Some n → is_none n.parent ≡ is_top r
top_agrees r n is =
    no_parent (column r 2) n.parent (node_parts (shown_node r) n is).parent
    ∙ sym (ap (λ b. is_eq (value_cmp (column r 2) Null) && b) (numbered r n is) ∙ and-true _)

module _ (db : Database) (room : IsRoom db) where
  top_found : (r : Row) (more : List Row) → filter is_top (db.trees 0) ≡ r ∷ more
      → (o : Option Node) → see r ≡ o → (m : Option ℕ) → number_in (rowid r) ≡ m
      → Tells HasNoRoot IsRootOf (rows_of db) (top_of (seen_as (option_map Some o) m))
  top_found r more first (Some n) seen m number = search (first_read, top_agrees)
  top_found r more first None seen None number = tt
  top_found r more first None seen (Some id) number =
      inl (unread_row db room r id
      (has_found is_top (db.trees 0) r (first_one is_top (db.trees 0) r more first).0) seen number)

  pub tells_top : (rows : List Row) → HasTop db.trees rows
      → Tells HasNoRoot IsRootOf (rows_of db) (top_of (seen_only rows))
  tells_top rows shown = by (filter is_top (db.trees 0)) refl
    where
      by : (kept : List Row) → filter is_top (db.trees 0) ≡ kept
          → Tells HasNoRoot IsRootOf (rows_of db) (top_of (seen_only rows))
      by [] none = grind (arith, nat_tests, none_read, top_agrees)
      by (r ∷ more) first =
          subst (λ l. Tells HasNoRoot IsRootOf (rows_of db) (top_of (seen_only l)))
          (sym (shown ∙ ap (λ l. take 1 (map shown_node l)) first))
          (top_found r more first (see r) refl (number_in (rowid r)) refl)

-- ---- children

pub under_agrees : (parent : ℕ) (r : Row) (n : Node) → see r ≡ Some n
    → has_parent parent n ≡ is_child (pos parent) r
under_agrees parent r n is =
    cc (
      parent_agrees parent (column r 2) n.parent (node_parts (shown_node r) n is).parent,
      and-true _,
      numbered r n is,
    )

-- the children are what the rows of that parent are read as
pub children_read : (db : Database) (parent : ℕ)
    → children_of (rows_of db).read parent
    ≡ sorted_by_name (filter_map see (filter (is_child (pos parent)) (db.trees 0)))
children_read db parent = grind (arith, nat_tests, filter_read, under_agrees)

pub kept_from : {A : Type 0} (p : A → Bool) (xs : List A) (x : A) → Has (filter p xs) x → Has xs x
kept_from p [] x there = absurd there
kept_from p (y ∷ ys) x there = grind (arith, nat_tests, kept_from p ys x)
