-- The groups of a user are what the rows of that user, in order of group, are read as.
use Rattle.std.proofs.Common.{rules, ◌≡◌, ℕ, List, [], ◌∷◌, map, filter, None, Some, Option, refl}
use Rattle.std.proofs.Common.{sym, ap, ◌∙◌, true, false, Bool, cond, IsTrue, arith, Ordering, Less}
use Rattle.std.proofs.{Common.{Equal, Greater, is_gt, is_lt, is_eq, nat_cmp}, lemmas.Bool.cond-true}
use Rattle.std.proofs.lemmas.{Bool.{cond-false, false≢true, Decides.nat_tests}, Cmp.on_total}
use Rattle.std.proofs.lemmas.{Map.Text.is_eq-slice_cmp, Slice.Eq.bytes_eq-Decides}
use Rattle.std.specs.{Prelude.{option_map, option_and_then}, List.AllByRecursion}
use Rattle.std.specs.List.{filter_map, cons_option, Sorted.IsStrictlySortedBy}
use Rattle.std.specs.{Ordering.{ordering_reverse, ordering_then}, Cmp.Lexicographic.slice_cmp}
use Rattle.sqlite.specs.{declared.types.Value.{Value, TheVariants.Text}, Effect.Database, Order.Row}
use Rattle.sqlite.specs.Order.{column, value_cmp}
use Rattle.sqlite_keyed.specs.Lists.{insert_sorted, sort_by}
use Rattle.sqlite_trees.specs.Tree.{IsAscending}
use Rattle.sqlite_value.proofs.OrderLemmas.{value_cmp-Null, value_cmp-Text, value_cmp-apart}
use Rattle.sqlite_value.proofs.OrderLemmas.{value_cmp_total}
use Rattle.room_entry.specs.{Utf8.is_utf8, Names.is_name, Pieces.same_text}
use Rattle.room_rows.specs.{Content.{put_pair, set_of}, Keep.AreGroupsOf}
use Rattle.store_tables.specs.{Meaning.{name_in, pair_in, rows_of}, Paired.Pair}
use Rattle.store_tables.specs.Paired.{all_filter, all_past, before, before_is, pair_cmp, put_first}
use Rattle.store_tables.specs.{Paired.total, RoomRows.set_sorted, Seeing.names_seen}
use Rattle.store_tables.specs.{Shown.is_user_row, Statements.{HasGroups, by_column, shown_group}}
use Rattle.store_tables.proofs.{Apart.kept_passes, Named.filter_read, Ordered.HasNoTies}
use Rattle.store_tables.proofs.Rowids.{each_of}

-- ---- to pass a test and to stand in order can change places

pub equal_pairs : (p o : Pair) → pair_cmp o p ≡ Equal → o ≡ p
equal_pairs p o same = grind (arith, nat_tests, both, same_list)
  where
    both : (x y : Ordering) → ordering_then x y ≡ Equal → (x ≡ Equal) × (y ≡ Equal)
    both x y e = grind (arith, nat_tests)

    same_list : (s t : List ℕ) → slice_cmp nat_cmp s t ≡ Equal → s ≡ t
    same_list s t e = (bytes_eq-Decides s t).0 (sym (is_eq-slice_cmp s t) ∙ ap is_eq e)

put_behind : (p o : Pair) (l : List Pair) → pair_cmp o p ≡ Less
    → put_pair p (o ∷ l) ≡ o ∷ put_pair p l
put_behind p o l less = cond-true _ (o ∷ put_pair p l) _ (before o p less)

put_there : (p o : Pair) (l : List Pair) → pair_cmp o p ≡ Equal → put_pair p (o ∷ l) ≡ o ∷ l
put_there p o l same =
    cond-false _ (o ∷ put_pair p l) _ (before_is o p ∙ ap is_lt same)
    ∙ cond-false _ (p ∷ o ∷ l) (o ∷ l)
    (before_is p o ∙ ap is_lt (total.antisymm p o ∙ ap ordering_reverse same))

module _ (q : Pair → Bool) where
  abbrev Put : Bool → Pair → List Pair → List Pair
  Put b p l = cond b (put_pair p l) l

  less_step : (p o : Pair) (os : List Pair) (b c : Bool) → pair_cmp o p ≡ Less → q o ≡ b → q p ≡ c
      → filter q (put_pair p os) ≡ Put c p (filter q os)
      → filter q (o ∷ put_pair p os) ≡ Put c p (filter q (o ∷ os))
  less_step p o os b c less is has more = grind (arith, nat_tests, put_behind)

  there_step : (p o : Pair) (os : List Pair) (c : Bool) → pair_cmp o p ≡ Equal → q p ≡ c
      → filter q (o ∷ os) ≡ Put c p (filter q (o ∷ os))
  there_step p o os c same has = grind (arith, nat_tests, equal_pairs, put_there)

  first_step : (p : Pair) (l : List Pair) (c : Bool) → q p ≡ c
      → AllByRecursion (λ y. pair_cmp p y ≡ Less) l → filter q (p ∷ l) ≡ Put c p (filter q l)
  first_step p l true has all =
      cond-true _ (p ∷ filter q l) _ has
      ∙ sym (put_first p (filter q l) (all_filter (λ y. pair_cmp p y ≡ Less) q l all))
  first_step p l false has all = cond-false _ (p ∷ filter q l) _ has

  filter_put : (p : Pair) (l : List Pair) → IsStrictlySortedBy pair_cmp l
      → filter q (put_pair p l) ≡ Put (q p) p (filter q l)
  unfolding IsStrictlySortedBy
  filter_put p [] sorted = refl
  filter_put p (o ∷ os) sorted = by (pair_cmp o p) refl (filter_put p os sorted.1)
    where
      by : (x : Ordering) → pair_cmp o p ≡ x → filter q (put_pair p os) ≡ Put (q p) p (filter q os)
          → filter q (put_pair p (o ∷ os)) ≡ Put (q p) p (filter q (o ∷ os))
      by Less e more = grind (arith, nat_tests, less_step, put_behind)
      by Equal e more = ap (filter q) (put_there p o os e) ∙ there_step p o os (q p) e refl
      by Greater e more =
          let up : pair_cmp p o ≡ Less = total.antisymm p o ∙ ap ordering_reverse e in
          let all : AllByRecursion (λ y. pair_cmp p y ≡ Less) (o ∷ os) =
          (up, all_past p o os up sorted.0) in
          ap (filter q) (put_first p (o ∷ os) all) ∙ first_step p (o ∷ os) (q p) refl all

  pub filter_set : (l : List Pair) → filter q (set_of l) ≡ set_of (filter q l)
  filter_set [] = refl
  filter_set (p ∷ l) =
      filter_put p (set_of l) (set_sorted l) ∙ ap (Put (q p) p) (filter_set l) ∙ by (q p)
    where
      by : (b : Bool) → cond b (put_pair p (set_of (filter q l))) (set_of (filter q l))
          ≡ set_of (cond b (p ∷ filter q l) (filter q l))
      by true = refl
      by false = refl

-- ---- rows in order of group

abbrev by_group : Row → Row → Ordering
by_group = by_column 1

all_inserted : (P : Row → Type 0) (new : Row) (rows : List Row) → P new → AllByRecursion P rows
    → AllByRecursion P (insert_sorted by_group new rows)
all_inserted P new [] here all = (here, tt)
all_inserted P new (r ∷ rows) here all =
    search (rules, here, all, all.1, all.0, all_inserted P new rows here all.1)

all_sorted : (P : Row → Type 0) (rows : List Row) → AllByRecursion P rows
    → AllByRecursion P (sort_by by_group rows)
all_sorted P [] all = tt
all_sorted P (r ∷ rows) all = search (all_inserted, all_sorted P rows all.1)

abbrev Rise : List Row → Type 0
Rise = IsAscending (λ a b. by_group a b ≡ Less)

group_total : Rattle.std.specs.Cmp.IsTotalOrder by_group
group_total = on_total (λ (r : Row). column r 1) value_cmp_total

behind : (new r : Row) (rows : List Row) → by_group new r ≡ Less
    → AllByRecursion (λ b. by_group r b ≡ Less) rows
    → AllByRecursion (λ b. by_group new b ≡ Less) rows
behind new r [] less all = tt
behind new r (b ∷ rows) less all =
    (group_total.trans new r b less all.0, behind new r rows less all.1)

rises_inserted : (new : Row) (rows : List Row)
    → AllByRecursion (λ b. is_eq (by_group new b) ≡ false) rows → Rise rows
    → Rise (insert_sorted by_group new rows)
rises_inserted new [] apart up = (tt, tt)
rises_inserted new (r ∷ rows) apart up =
    by (by_group new r) refl (rises_inserted new rows apart.1 up.1)
  where
    by : (o : Ordering) → by_group new r ≡ o → Rise (insert_sorted by_group new rows)
        → Rise (cond (is_gt o) (r ∷ insert_sorted by_group new rows) (new ∷ r ∷ rows))
    by o e more = grind (arith, nat_tests, all_inserted, behind, group_total)

rises_sorted : (rows : List Row) → HasNoTies by_group rows → Rise (sort_by by_group rows)
rises_sorted [] apart = tt
rises_sorted (r ∷ rows) apart =
    search (all_sorted, is_eq, rises_inserted, rises_sorted rows apart.1)

-- ---- what they are read as

pub name_text : (v : Value) (t : List ℕ) → name_in v ≡ Some t → v ≡ Text t
name_text (Text s) t is = search (rules, is)
name_text _ t is = absurd (cc)

pair_group : (g u : Option (List ℕ)) (p : Pair)
    → option_and_then (λ a. option_map (λ b. (a, b)) u) g ≡ Some p → g ≡ Some p.0
pair_group g u p is = grind (arith, nat_tests)

pair_user : (g u : Option (List ℕ)) (p : Pair)
    → option_and_then (λ a. option_map (λ b. (a, b)) u) g ≡ Some p → u ≡ Some p.1
pair_user g u p is = grind (arith, nat_tests)

less_pairs : (r o : Row) (p m : Pair) → pair_in r ≡ Some p → pair_in o ≡ Some m
    → by_group r o ≡ Less → pair_cmp p m ≡ Less
less_pairs r o p m is at less =
    search (rules, name_text, pair_group, value_cmp-Text, is, less)

all_less : (r : Row) (p : Pair) → pair_in r ≡ Some p → (rows : List Row)
    → AllByRecursion (λ b. by_group r b ≡ Less) rows
    → AllByRecursion (λ y. pair_cmp p y ≡ Less) (filter_map pair_in rows)
all_less r p is [] all = tt
all_less r p is (b ∷ rows) all = by (pair_in b) refl (all_less r p is rows all.1)
  where
    by : (o : Option Pair) → pair_in b ≡ o
        → AllByRecursion (λ y. pair_cmp p y ≡ Less) (filter_map pair_in rows)
        → AllByRecursion (λ y. pair_cmp p y ≡ Less) (cons_option o (filter_map pair_in rows))
    by None at more = more
    by (Some m) at more = (less_pairs r b p m is at all.0, more)

insert_pair : (r : Row) (p : Pair) → pair_in r ≡ Some p → (rows : List Row)
    → AllByRecursion (λ b. is_eq (by_group r b) ≡ false) rows → Rise rows
    → filter_map pair_in (insert_sorted by_group r rows) ≡ put_pair p (filter_map pair_in rows)
insert_pair r p is [] apart up = ap (λ o. cons_option o []) is
insert_pair r p is (o ∷ rows) apart up =
    by (by_group r o) refl (insert_pair r p is rows apart.1 up.1)
  where
    later : (x : Option Pair) → pair_in o ≡ x → by_group o r ≡ Less
        → filter_map pair_in (insert_sorted by_group r rows) ≡ put_pair p (filter_map pair_in rows)
        → cons_option x (filter_map pair_in (insert_sorted by_group r rows))
        ≡ put_pair p (cons_option x (filter_map pair_in rows))
    later x at less more = grind (arith, nat_tests, less_pairs, put_behind)

    by : (x : Ordering) → by_group r o ≡ x
        → filter_map pair_in (insert_sorted by_group r rows) ≡ put_pair p (filter_map pair_in rows)
        → filter_map pair_in (cond (is_gt x) (o ∷ insert_sorted by_group r rows) (r ∷ o ∷ rows))
        ≡ put_pair p (filter_map pair_in (o ∷ rows))
    by Less e more =
        cc (
          is,
          put_first p (filter_map pair_in (o ∷ rows)) (all_less r p is (o ∷ rows) (
            e,
            behind r o rows e up.0,
          )),
        )
    by Equal e more = absurd (false≢true (sym apart.0 ∙ ap is_eq e))
    by Greater e more = grind (arith, nat_tests, group_total, later)

skip_pair : (r : Row) → pair_in r ≡ None → (rows : List Row)
    → filter_map pair_in (insert_sorted by_group r rows) ≡ filter_map pair_in rows
skip_pair r none [] = ap (λ o. cons_option o []) none
skip_pair r none (o ∷ rows) = search (rules, none, skip_pair r none rows)

set_of_rows : (rows : List Row) → HasNoTies by_group rows
    → set_of (filter_map pair_in rows) ≡ filter_map pair_in (sort_by by_group rows)
set_of_rows [] apart = refl
set_of_rows (r ∷ rows) apart = by (pair_in r) refl (set_of_rows rows apart.1)
  where
    by : (x : Option Pair) → pair_in r ≡ x
        → set_of (filter_map pair_in rows) ≡ filter_map pair_in (sort_by by_group rows)
        → set_of (cons_option x (filter_map pair_in rows))
        ≡ filter_map pair_in (insert_sorted by_group r (sort_by by_group rows))
    by x is more = grind (arith, nat_tests, all_sorted, insert_pair, rises_sorted, skip_pair)

names_shown : (rows : List Row)
    → names_seen (map shown_group rows) ≡ filter_map (λ r. name_in (column r 1)) rows
names_shown [] = refl
names_shown (r ∷ rows) = ap (cons_option (name_in (column r 1))) (names_shown rows)

module _ (user : List ℕ) (named : IsTrue (is_name user)) (text : IsTrue (is_utf8 user)) where
  abbrev group : Row → Option (List ℕ)
  group r = name_in (column r 1)

  abbrev IsOf : Row → Type 0
  IsOf r = column r 2 ≡ Text user

  user_is : (v : Value) → is_eq (value_cmp v (Text user)) ≡ true → v ≡ Text user
  user_is v same =
      grind (
        arith,
        nat_tests,
        bytes_eq-Decides,
        is_eq-slice_cmp,
        value_cmp-Null,
        value_cmp-Text,
        value_cmp-apart,
      )

  user_named : (v : Value) → v ≡ Text user → name_in v ≡ Some user
  user_named v is = grind (arith, nat_tests)

  pair_is : (r : Row) → IsOf r → pair_in r ≡ option_map (λ g. (g, user)) (group r)
  pair_is r is = search (rules, user_named)

  agrees : (r : Row) (p : Pair) → pair_in r ≡ Some p → same_text p.1 user ≡ is_user_row user r
  agrees r p is = grind (arith, nat_tests, is_eq-slice_cmp, name_text, pair_user, value_cmp-Text)

  groups_read : (rows : List Row) → AllByRecursion IsOf rows
      → map (λ (p : Pair). p.0) (filter_map pair_in rows) ≡ filter_map group rows
  groups_read [] all = refl
  groups_read (r ∷ rows) all = search (rules, pair_is, all, all.1, groups_read rows all.1)

  pub tells_groups : (db : Database) → HasNoTies by_group (filter (is_user_row user) (db.trees 3))
      → (rows : List Row) → HasGroups user db.trees rows
      → AreGroupsOf user (rows_of db) (names_seen rows)
  tells_groups db apart rows shown =
      let kept = filter (is_user_row user) (db.trees 3) in
      let mine = all_sorted IsOf kept
      (search (rules, each_of, kept, user_is, kept_passes, db.trees)) in
      let q : Pair → Bool = λ p. same_text p.1 user in
      let pairs = filter_set q (filter_map pair_in (db.trees 3))
      ∙ ap set_of (filter_read pair_in q (is_user_row user) agrees (db.trees 3))
      ∙ set_of_rows kept apart in
      grind (arith, nat_tests, shown, names_shown, kept, groups_read, mine, pairs)
