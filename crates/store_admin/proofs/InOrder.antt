-- The rows of members in order of group and then of user, and the pairs that they are read as.
use Rattle.std.proofs.Common.{◌≡◌, ℕ, List, [], ◌∷◌, map, filter, None, Some, Option, refl, sym, ap}
use Rattle.std.proofs.Common.{subst, ◌∙◌, true, false, Bool, ◌&&◌, inl, inr, Ordering, Less, Equal}
use Rattle.std.proofs.Common.{Greater, is_eq, nat_cmp, true≢false, IsPermutation, arith, rules}
use Rattle.std.proofs.lemmas.Bool.{and_from, and_parts, false≢true, not-true, Decides.nat_tests}
use Rattle.std.{proofs.lemmas.Cmp.{on_total, then_total}, specs.Prelude.option_map}
use Rattle.std.specs.{Prelude.option_and_then, Cmp.{IsTotalOrder, Lexicographic.slice_cmp}}
use Rattle.std.specs.List.{AllByRecursion, filter_map, cons_option, Sorted.IsStrictlySortedBy}
use Rattle.std.specs.Ordering.{ordering_then}
use Rattle.sqlite.specs.{declared.types.Value.{Value, TheVariants.{Null, Text}}, Effect.Database}
use Rattle.sqlite.specs.{Ops.{binary, is_true}, Order.{Row, column, value_cmp}, Query.Query}
use Rattle.sqlite.specs.{Query.{Output, output, output_cmp, page, IsAnswerAs}, Term.Term}
use Rattle.sqlite.specs.Tree.{Trees, rowid, IsTable}
use Rattle.sqlite_catalog.{proofs.AlterLemmas.keys_are_unique, specs.Listing.IsSound}
use Rattle.sqlite_keyed.{specs.Lists.{insert_sorted, sort_by}, proofs.ListLemmas.map-map}
use Rattle.sqlite_keyed.proofs.ListLemmas.{ascending-map, ascending_weaker}
use Rattle.sqlite_keyed.proofs.SortLemmas.{sorted_is-sort_by, sort_by-map}
use Rattle.sqlite_rules.{specs.Lists.Has, proofs.RuleLemmas.keeps_at}
use Rattle.sqlite_schema.specs.declared.schema.{Constraint.TheVariants.NotNull, Table.Table}
use Rattle.sqlite_schema.specs.Rules.{agree, differ, passes}
use Rattle.sqlite_sql.{proofs.QueryLemmas.output_cmp_total, specs.Ops.is_null}
use Rattle.sqlite_sql.specs.declared.ops.{BinaryOp.TheVariants.Compare, CompareOp.TheVariants.Eq}
use Rattle.sqlite_tied.specs.Compute.{everything}
use Rattle.sqlite_trees.specs.Tree.{IsAscending}
use Rattle.sqlite_value.specs.{Keys.{first_key, plain}, declared.keys.Collation.TheVariants.Binary}
use Rattle.sqlite_value.proofs.OrderLemmas.{then-Equal, value_cmp-Text, value_cmp_total}
use Rattle.store_tables.specs.{Meaning.pair_in, Paired.{Pair, pair_cmp}, Shown.IsRoom}
use Rattle.store_tables.{specs.Tables.{members, room_schema}, proofs.Answers.each_way}
use Rattle.store_tables.proofs.{Answers.{passes as passes_tests, shows, way}, Ordered.HasNoTies}
use Rattle.store_tables.proofs.{Rowids.{each_of, of_each}, Texts.{ascending_by, query_of}}
use Rattle.store_tables.proofs.{Grouped.name_text, Apart.{any_none, equal_from, differ_from}}
use Rattle.store_tables.proofs.Apart.{int_is_some}
use Rattle.store_admin.specs.Operating.{by_pair}

-- ---- no two rows have one pair

agrees_by : (a b : Row) → is_true (binary (Compare Eq Binary) (column a 2) (column b 2)) ≡ true
    → is_true (binary (Compare Eq Binary) (column a 1) (column b 1)) ≡ true
    → agree plain (2 ∷ 1 ∷ []) a (2 ∷ 1 ∷ []) b ≡ true
unfolding first_key
agrees_by a b one two = and_from _ _ one (and_from _ true two refl)

abbrev members_table : Table
members_table = record members { tree = 3 }

written : (db : Trees) (r : Row) → passes NotNull room_schema db members_table r ≡ true
    → (is_null (column r 1) ≡ false) × (is_null (column r 2) ≡ false)
unfolding everything
written db r h = (not-true _ (and_parts _ _ h).0, not-true _ (and_parts _ _ (and_parts _ _ h).1).0)

members_listed : Has room_schema.tables members_table
unfolding everything
members_listed = inr (inr (inl refl))

then_equal : (x y : Ordering) → is_eq (ordering_then x y) ≡ true → (is_eq x ≡ true)
    × (is_eq y ≡ true)
then_equal Less y e = absurd (true≢false (sym e))
then_equal Equal y e = (refl, e)
then_equal Greater y e = absurd (true≢false (sym e))

module _ (db : Database) (room : IsRoom db) where
  abbrev rows : List Row
  rows = db.trees 3

  sound : IsSound room_schema db.trees
  sound = subst (λ s. IsSound s db.trees) room.schema room.sound

  present : (r : Row) → Has rows r → (is_null (column r 1) ≡ false) × (is_null (column r 2) ≡ false)
  present r there =
      written db.trees r (keeps_at NotNull room_schema db.trees members_table r
      (sound.obeys.rules NotNull) members_listed there)

  apart : (a b : Row) → Has rows a → Has rows b → value_cmp (rowid a) (rowid b) ≡ Less → (t : Bool)
      → is_eq (by_pair a b) ≡ t → t ≡ false
  apart a b here there less false is = refl
  apart a b here there less true is =
      let same = then_equal (value_cmp (column a 1) (column b 1))
      (value_cmp (column a 2) (column b 2)) is in
      let na = present a here in
      let nb = present b there in
      let agrees : agree plain (2 ∷ 1 ∷ []) a (2 ∷ 1 ∷ []) b ≡ true = agrees_by a b
      (equal_from (column a 2) (column b 2) na.1 nb.1 same.1)
      (equal_from (column a 1) (column b 1) na.0 nb.0 same.0) in
      let differs = differ_from (rowid a) (rowid b)
      (int_is_some (rowid a) (of_each _ rows room.members.1 a here))
      (int_is_some (rowid b) (of_each _ rows room.members.1 b there)) less in
      let unique = keys_are_unique room_schema db.trees members_table 0
      (2 ∷ 1 ∷ []) b sound members_listed refl there in
      absurd
      (false≢true
      (sym (any_none (λ other. agree plain (2 ∷ 1 ∷ []) other (2 ∷ 1 ∷ []) b
      && differ (rowid other) (rowid b)) rows a unique here) ∙ and_from _ _ agrees differs))

  none_tied : (some : List Row) → IsTable some → ((r : Row) → Has some r → Has rows r)
      → HasNoTies by_pair some
  none_tied [] up within = tt
  none_tied (r ∷ some) up within = (
    each_of _ some (λ y there. apart r y (within r (inl refl)) (within y (inr there))
        (of_each _ some up.0 y there) (is_eq (by_pair r y)) refl),
    none_tied some up.1 (λ x there. within x (inr there)),
  )

  pub pairs_apart : HasNoTies by_pair (db.trees 3)
  pairs_apart = none_tied rows room.members.0 (λ r there. there)

-- ---- what a query shows in this order

module _ (terms : List Term) (db : Trees) (params : Row) (shown_rows : List Row)
    (a : IsAnswerAs Null
    (query_of 3 [] terms (ascending_by 1 ∷ ascending_by 2 ∷ [])) db params shown_rows) where
  abbrev question : Query
  question = query_of 3 [] terms (ascending_by 1 ∷ ascending_by 2 ∷ [])

  abbrev shown : Row → Output
  shown r = output question (way params r)

  abbrev passing : List Row
  passing = filter (passes_tests [] params) (db 3)

  compared : (r s : Row) → output_cmp question (shown r) (shown s) ≡ by_pair r s
  compared r s = grind (arith, nat_tests, then-Equal)

  passing_are : a.kept ≡ map shown passing
  passing_are =
      a.distinct ∙ ap (map (output question)) (a.grouped ∙ each_way Null db [] params (db 3))
      ∙ map-map (output question) (way params) passing

  pub in_pairs : HasNoTies by_pair passing
      → shown_rows ≡ map (shows terms params) (sort_by by_pair passing)
  in_pairs apart =
      let apart' = ascending-map (λ x y. is_eq (output_cmp question x y) ≡ false) shown passing
      (ascending_weaker _ (λ r s. is_eq (output_cmp question (shown r) (shown s)) ≡ false)
      (λ r s h. ap is_eq (compared r s) ∙ h) passing apart) in
      let ordered = sorted_is-sort_by (output_cmp question) (output_cmp_total question)
      (map shown passing) a.ordered apart'
      (subst (λ l. IsPermutation l a.ordered) passing_are a.same) a.sorted
      ∙ sort_by-map (output_cmp question) shown passing
      ∙ (λ i. map shown (sort_by (λ r s. compared r s i) passing)) in
      a.shown ∙ ap (λ l. page question params (map (λ (o : Output). o.1) l)) ordered
      ∙ ap (page question params) (map-map (λ (o : Output). o.1) shown (sort_by by_pair passing))

-- ---- rows in order rise

pub pair_total : IsTotalOrder by_pair
pair_total =
    then_total (on_total (λ (r : Row). column r 1) value_cmp_total)
    (on_total (λ (r : Row). column r 2) value_cmp_total)

abbrev Rise : List Row → Type 0
Rise = IsAscending (λ a b. by_pair a b ≡ Less)

all_inserted : (P : Row → Type 0) (new : Row) (rows : List Row) → P new → AllByRecursion P rows
    → AllByRecursion P (insert_sorted by_pair new rows)
all_inserted P new [] here all = (here, tt)
all_inserted P new (r ∷ rows) here all =
    grind (arith, nat_tests, all_inserted P new rows here all.1)

all_sorted : (P : Row → Type 0) (rows : List Row) → AllByRecursion P rows
    → AllByRecursion P (sort_by by_pair rows)
all_sorted P [] all = tt
all_sorted P (r ∷ rows) all =
    all_inserted P r (sort_by by_pair rows) all.0 (all_sorted P rows all.1)

behind : (new r : Row) (rows : List Row) → by_pair new r ≡ Less
    → AllByRecursion (λ b. by_pair r b ≡ Less) rows
    → AllByRecursion (λ b. by_pair new b ≡ Less) rows
behind new r [] less all = tt
behind new r (b ∷ rows) less all =
    (pair_total.trans new r b less all.0, behind new r rows less all.1)

rises_inserted : (new : Row) (rows : List Row)
    → AllByRecursion (λ b. is_eq (by_pair new b) ≡ false) rows → Rise rows
    → Rise (insert_sorted by_pair new rows)
rises_inserted new [] apart up = (tt, tt)
rises_inserted new (r ∷ rows) apart up =
    grind (
      arith,
      nat_tests,
      all_inserted,
      apart,
      behind,
      pair_total,
      rises_inserted new rows
          apart.1 up.1,
    )

rises_sorted : (rows : List Row) → HasNoTies by_pair rows → Rise (sort_by by_pair rows)
rises_sorted [] apart = tt
rises_sorted (r ∷ rows) apart =
    search (rules, rises_inserted, all_sorted, apart.0, rises_sorted rows apart.1)

-- ---- and so do the pairs that they are read as

parts : (g u : Option (List ℕ)) (p : Pair)
    → option_and_then (λ a. option_map (λ b. (a, b)) u) g ≡ Some p → (g ≡ Some p.0) × (u ≡ Some p.1)
parts None u p is = absurd (cc)
parts (Some g) None p is = absurd (cc)
parts (Some g) (Some u) p is = search rules

texts : (r : Row) (p : Pair) → pair_in r ≡ Some p → (column r 1 ≡ Text p.0)
    × (column r 2 ≡ Text p.1)
texts r p is = grind (arith, nat_tests, name_text, parts)

same_cmp : (v w : Value) (s t : List ℕ) → v ≡ Text s → w ≡ Text t
    → value_cmp v w ≡ slice_cmp nat_cmp s t
same_cmp v w s t one two =
    ap (λ x. value_cmp x w) one ∙ ap (value_cmp (Text s)) two ∙ value_cmp-Text s t

less_pairs : (r o : Row) (p m : Pair) → pair_in r ≡ Some p → pair_in o ≡ Some m → by_pair r o ≡ Less
    → pair_cmp p m ≡ Less
less_pairs r o p m is at less =
    search (rules, texts, same_cmp, is, at, less)

all_less : (r : Row) (p : Pair) → pair_in r ≡ Some p → (rows : List Row)
    → AllByRecursion (λ b. by_pair r b ≡ Less) rows
    → AllByRecursion (λ y. pair_cmp p y ≡ Less) (filter_map pair_in rows)
all_less r p is [] all = tt
all_less r p is (b ∷ rows) all = by (pair_in b) refl (all_less r p is rows all.1)
  where
    by : (o : Option Pair) → pair_in b ≡ o
        → AllByRecursion (λ y. pair_cmp p y ≡ Less) (filter_map pair_in rows)
        → AllByRecursion (λ y. pair_cmp p y ≡ Less) (cons_option o (filter_map pair_in rows))
    by None at more = more
    by (Some m) at more = (less_pairs r b p m is at all.0, more)

pairs_rise : (rows : List Row) → Rise rows → IsStrictlySortedBy pair_cmp (filter_map pair_in rows)
unfolding IsStrictlySortedBy
pairs_rise [] up = tt
pairs_rise (r ∷ rows) up = by (pair_in r) refl (pairs_rise rows up.1)
  where
    by : (o : Option Pair) → pair_in r ≡ o → IsStrictlySortedBy pair_cmp (filter_map pair_in rows)
        → IsStrictlySortedBy pair_cmp (cons_option o (filter_map pair_in rows))
    by None is more = more
    by (Some p) is more = (all_less r p is rows up.0, more)

pub pairs_in_order : (rows : List Row) → HasNoTies by_pair rows
    → IsStrictlySortedBy pair_cmp (filter_map pair_in (sort_by by_pair rows))
pairs_in_order rows apart = pairs_rise (sort_by by_pair rows) (rises_sorted rows apart)
