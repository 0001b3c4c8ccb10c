-- No two children have one name: what UNIQUE says of rows that agree in its first column.
use Rattle.std.proofs.Common.{rules, ◌≡◌, ℕ, ℤ, subst, List, [], ◌∷◌, filter, IsTrue, inl, inr}
use Rattle.std.proofs.Common.{refl, ap, ◌∙◌, true, false, Bool, cond, Less, is_eq, arith}
use Rattle.std.proofs.lemmas.Bool.{and_parts, and_from, not-true, or_parts, Decides.nat_tests}
use Rattle.std.{proofs.lemmas.Cmp.alike_right, specs.List.{AllByRecursion, list_any}}
use Rattle.sqlite.specs.{declared.types.Value.{Value, TheVariants.{Int, Text}}, Effect.Database}
use Rattle.sqlite.specs.{Ops.{binary, is_true}, Order.{Row, column, value_cmp}, Tree.{Trees, rowid}}
use Rattle.sqlite.specs.Tree.{IsTable}
use Rattle.sqlite_catalog.{proofs.AlterLemmas.keys_are_unique, specs.Listing.IsSound}
use Rattle.sqlite_rules.{specs.Lists.Has, proofs.RuleLemmas.keeps_at}
use Rattle.sqlite_schema.specs.declared.schema.{Constraint.TheVariants.NotNull, Table.Table}
use Rattle.sqlite_schema.specs.Rules.{agree, clashes, differ, passes}
use Rattle.sqlite_sql.specs.{Ops.{is_null, test}, declared.ops.BinaryOp.TheVariants.Compare}
use Rattle.sqlite_sql.specs.declared.ops.CompareOp.TheVariants.{Eq, Ne}
use Rattle.sqlite_tied.specs.Compute.{everything}
use Rattle.sqlite_trees.specs.View.{is_int}
use Rattle.sqlite_value.specs.{Keys.{first_key, plain}, declared.keys.Collation.TheVariants.Binary}
use Rattle.sqlite_value.proofs.OrderLemmas.{value_cmp-Null, value_cmp_total}
use Rattle.store_tables.specs.Shown.{IsRoom, is_child, is_numbered, is_user_row}
use Rattle.store_tables.specs.{Statements.by_column, Tables.{members, room_schema}}
use Rattle.store_tables.proofs.{Ordered.HasNoTies, Rowids.{each_of, is_equal, of_each}, Tests.told}
use Rattle.store_tables.proofs.{Tops.kept_from, Writes.nodes_table}

pub any_none : {A : Type 0} (p : A → Bool) (xs : List A) (x : A) → list_any p xs ≡ false → Has xs x
    → p x ≡ false
any_none p [] x none there = absurd there
any_none p (y ∷ ys) x none (inl e) = ap p e ∙ (or_parts (p y) (list_any p ys) none).0
any_none p (y ∷ ys) x none (inr later) =
    any_none p ys x (or_parts (p y) (list_any p ys) none).1 later

pub kept_passes : {A : Type 0} (p : A → Bool) (xs : List A) (x : A) → Has (filter p xs) x
    → p x ≡ true
kept_passes p [] x there = absurd there
kept_passes p (y ∷ ys) x there = grind (arith, nat_tests, kept_passes p ys x)

-- ---- = and <> of values that are not NULL

pub equal_from : (a b : Value) → is_null a ≡ false → is_null b ≡ false → is_eq (value_cmp a b) ≡ true
    → is_true (binary (Compare Eq Binary) a b) ≡ true
unfolding binary
equal_from a b some other same = rw (some, other) (told (is_eq (value_cmp a b)) ∙ same)

pub differ_from : (a b : Value) → is_null a ≡ false → is_null b ≡ false → value_cmp a b ≡ Less
    → differ a b ≡ true
unfolding binary
differ_from a b some other less =
    rw (some, other) (told (test Ne (value_cmp a b)) ∙ ap (test Ne) less)

agrees_by : (first second : ℕ) (a b : Row)
    → is_true (binary (Compare Eq Binary) (column a first) (column b first)) ≡ true
    → is_true (binary (Compare Eq Binary) (column a second) (column b second)) ≡ true
    → agree plain (first ∷ second ∷ []) a (first ∷ second ∷ []) b ≡ true
unfolding first_key
agrees_by first second a b one two = and_from _ _ one (and_from _ true two refl)

pub int_is_some : (v : Value) → IsTrue (is_int v) → is_null v ≡ false
int_is_some v int = grind (arith, nat_tests)

-- ---- rows that agree in the first column of a key differ in the second

module _ (rows : List Row) (table : IsTable rows)
    (ints : AllByRecursion (λ r. IsTrue (is_int (rowid r))) rows) (first second : ℕ) (v : Value)
    (p : Row → Bool)
    (unique : (r : Row) → Has rows r → clashes plain (first ∷ second ∷ []) rows r ≡ false)
    (fixes : (r : Row) → p r ≡ true → is_eq (value_cmp (column r first) v) ≡ true)
    (present : (r : Row) → Has rows r → p r ≡ true → (is_null (column r first) ≡ false)
    × (is_null (column r second) ≡ false)) where
  same_first : (a b : Row) → p a ≡ true → p b ≡ true
      → is_eq (value_cmp (column a first) (column b first)) ≡ true
  same_first a b one two = grind (arith, nat_tests, alike_right, is_equal, value_cmp_total)

  apart : (a b : Row) → Has rows a → Has rows b → p a ≡ true → p b ≡ true
      → value_cmp (rowid a) (rowid b) ≡ Less → (t : Bool) → is_eq (by_column second a b) ≡ t
      → t ≡ false
  apart a b here there one two less false is = refl
  apart a b here there one two less true is =
      let na = present a here one in
      let nb = present b there two in
      let agrees = agrees_by first second a b
      (equal_from (column a first) (column b first) na.0 nb.0 (same_first a b one two))
      (equal_from (column a second) (column b second) na.1 nb.1 is) in
      search (rules, differ_from, a, b, int_is_some, of_each, here, there, less, any_none)

  none_tied : (some : List Row) → IsTable some → ((r : Row) → Has some r → Has rows r)
      → HasNoTies (by_column second) (filter p some)
  none_tied [] up within = tt
  none_tied (r ∷ some) up within =
      step (p r) refl (none_tied some up.1 (λ x there. within x (inr there)))
    where
      step : (b : Bool) → p r ≡ b → HasNoTies (by_column second) (filter p some)
          → HasNoTies (by_column second) (cond b (r ∷ filter p some) (filter p some))
      step false is more = more
      step true is more = (
        each_of _ (filter p some) (λ y there.
            let behind = kept_from p some y there in
            apart r y (within r (inl refl)) (within y (inr behind)) is (kept_passes p some y there)
            (of_each _ some up.0 y behind) (is_eq (by_column second r y)) refl),
        more,
      )

  pub no_ties : HasNoTies (by_column second) (filter p rows)
  no_ties = none_tied rows table (λ r there. there)

-- ---- children

like_int : (v : Value) (n : ℤ) → is_eq (value_cmp v (Int n)) ≡ true → is_null v ≡ false
like_int v n same = grind (arith, nat_tests, value_cmp-Null)

named : (db : Trees) (r : Row) → passes NotNull room_schema db nodes_table r ≡ true
    → is_null (column r 3) ≡ false
unfolding everything
named db r h = not-true _ (and_parts _ _ h).0

nodes_listed : Has room_schema.tables nodes_table
unfolding everything
nodes_listed = inl refl

pub children_apart : (db : Database) → IsRoom db → (parent : ℤ)
    → HasNoTies (by_column 3) (filter (is_child parent) (db.trees 0))
children_apart db room parent =
    let sound = subst (λ s. IsSound s db.trees) room.schema room.sound in
    no_ties (db.trees 0) room.nodes.0 room.nodes.1 2 3 (Int parent) (is_child parent)
    (λ r there. keys_are_unique room_schema db.trees nodes_table 0
    (2 ∷ 3 ∷ []) r sound nodes_listed refl there)
    (λ r under. (and_parts _ (is_numbered r) under).0)
    (λ r there under. (
      like_int (column r 2) parent (and_parts _ (is_numbered r) under).0,
      search (rules, named, db.trees, keeps_at, sound.obeys.rules, nodes_listed),
    ))

-- ---- pairs

abbrev members_table : Table
members_table = record members { tree = 3 }

like_text : (v : Value) (t : List ℕ) → is_eq (value_cmp v (Text t)) ≡ true → is_null v ≡ false
like_text v t same = grind (arith, nat_tests, value_cmp-Null)

grouped : (db : Trees) (r : Row) → passes NotNull room_schema db members_table r ≡ true
    → is_null (column r 1) ≡ false
unfolding everything
grouped db r h = not-true _ (and_parts _ _ h).0

members_listed : Has room_schema.tables members_table
unfolding everything
members_listed = inr (inr (inl refl))

pub members_apart : (db : Database) → IsRoom db → (user : List ℕ)
    → HasNoTies (by_column 1) (filter (is_user_row user) (db.trees 3))
members_apart db room user =
    let sound = subst (λ s. IsSound s db.trees) room.schema room.sound in
    no_ties (db.trees 3) room.members.0 room.members.1 2 1 (Text user) (is_user_row user)
    (λ r there. keys_are_unique room_schema db.trees members_table 0
    (2 ∷ 1 ∷ []) r sound members_listed refl there)
    (λ r mine. mine)
    (search (rules, like_text, grouped, db.trees, keeps_at, sound.obeys.rules, members_listed))
