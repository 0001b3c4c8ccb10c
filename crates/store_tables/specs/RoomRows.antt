-- What a room's tables see to: their rows are rows of a keeper.
use Rattle.std.proofs.Common.{◌≡◌, ℕ, ℤ, ◌<◌, drop, pos, List, [], ◌∷◌, map, find, Option, Some}
use Rattle.std.proofs.Common.{None, Bool, true, false, cond, refl, sym, ap, subst, ◌∙◌, inl, inr}
use Rattle.std.specs.Prelude.{◌==◌, ◌&&◌, option_and_then, option_map, is_none, is_some, nat_lt}
use Rattle.std.specs.Prelude.{IsTrue, if◌then◌else◌}
use Rattle.std.specs.List.{filter_map, cons_option, list_all, list_any}
use Rattle.std.specs.List.Sorted.{IsStrictlySortedBy}
use Rattle.std.specs.Ordering.{is_eq}
use Rattle.std.proofs.lemmas.Bool.{cases_Bool, and_parts, and_from, or_left, or_right, eqb-true}
use Rattle.std.proofs.lemmas.Bool.{eq-eqb, cond-true, lt-ltb}
use Rattle.std.proofs.lemmas.Option.{none-some}
use Rattle.sqlite.specs.declared.types.Value.{Value}
use Rattle.sqlite.specs.declared.types.Value.TheVariants.{Null, Int, Real, Text, Blob}
use Rattle.sqlite.specs.Order.{Row, value_cmp}
use Rattle.sqlite.specs.Tree.{Trees, rowid, has_rowid, IsTable}
use Rattle.sqlite.specs.Effect.{Database}
use Rattle.sqlite.specs.Ops.{binary, is_true, from_truth}
use Rattle.sqlite_sql.specs.declared.ops.BinaryOp.TheVariants.{Compare}
use Rattle.sqlite_sql.specs.declared.ops.CompareOp.TheVariants.{Eq}
use Rattle.sqlite_value.specs.declared.keys.Collation.TheVariants.{Binary}
use Rattle.sqlite_value.proofs.OrderLemmas.{value_cmp-Null}
use Rattle.sqlite_trees.specs.View.{is_int}
use Rattle.sqlite_schema.specs.declared.schema.Constraint.TheVariants.{ForeignKey}
use Rattle.sqlite_schema.specs.Rules.{passes}
use Rattle.sqlite_rules.specs.Lists.{Has}
use Rattle.sqlite_rules.proofs.ListLemmas.{some_has}
use Rattle.sqlite_rules.proofs.RuleLemmas.{keeps_at}
use Rattle.sqlite_tied.specs.Compute.{everything}
use Rattle.room_entry.specs.Pieces.{is_among}
use Rattle.room_rows.specs.declared.node.Node.{Node}
use Rattle.room_rows.specs.Content.{node_at, set_of}
use Rattle.room_rows.specs.Rows.{AreRows, Unread, numbers_of, put_number, put_numbers}
use Rattle.room_rows.specs.Rows.{unread_numbers}
use Rattle.room_rows.proofs.Lookups.{find_no}
use Rattle.store_tables.specs.Paired.{pair_cmp, put_sorted, sorted_set, empty_sorted}
use Rattle.store_tables.specs.Tables.{bodies, room_schema}
use Rattle.store_tables.specs.Shown.{IsRoom, shown_node}
use Rattle.store_tables.specs.Meaning.{number_in, node_in, unread_in, body_in, pair_in, nodes_of}
use Rattle.store_tables.specs.Meaning.{unread_of, unread_with, bodies_of, rows_of}
use Rattle.store_tables.specs.Keyed.{same_int, same_number}
use Rattle.store_tables.specs.Filed.{number_is, body_rowid, body_low, node_at_row, unread_at_row}
use Rattle.store_tables.specs.Filed.{nodes_rise, unread_parts, unread_rise, bodies_rise}

-- ---- pairs

pub set_sorted : (l : List (List ℕ × List ℕ)) → IsStrictlySortedBy pair_cmp (set_of l)
set_sorted [] = empty_sorted
set_sorted (p ∷ l) = put_sorted p (set_of l) (set_sorted l)

pub set_twice : (l : List (List ℕ × List ℕ)) → set_of (set_of l) ≡ set_of l
set_twice l = sorted_set (set_of l) (set_sorted l)

-- ---- a row of a table is found by its number

before : (x r : Row) (id : ℕ) → rowid r ≡ Int (pos id) → value_cmp (rowid x) (rowid r)
    ≡ Rattle.std.specs.declared.cmp.Ordering.TheVariants.Less → has_rowid (pos id) x ≡ false
before x r id is less = ap is_eq (ap (value_cmp (rowid x)) (sym is) ∙ less)

of_each : {X : Type 0} (P : X → Type 0) (rows : List X) → Rattle.std.specs.List.AllByRecursion P
    rows → (x : X) → Has rows x → P x
of_each P [] all x there = absurd there
of_each P (y ∷ rows) all x (inl e) = subst P (sym e) all.0
of_each P (y ∷ rows) all x (inr there) = of_each P rows all.1 x there

number_has : (r : Row) (id : ℕ) → rowid r ≡ Int (pos id) → has_rowid (pos id) r ≡ true
number_has r id is = ap (λ v. is_eq (value_cmp v (Int (pos id)))) is ∙ same_number id id
    ∙ eq-eqb id id refl

pub row_found : (rows : List Row) (r : Row) (id : ℕ) → IsTable rows → Has rows r
    → rowid r ≡ Int (pos id) → find (has_rowid (pos id)) rows ≡ Some r
row_found [] r id table there is = absurd there
row_found (x ∷ rows) r id table (inl e) is =
    ap (λ b. cond b (Some x) (find (has_rowid (pos id)) rows))
    (number_has x id (ap rowid (sym e) ∙ is)) ∙ ap Some (sym e)
row_found (x ∷ rows) r id table (inr later) is =
    ap (λ b. cond b (Some x) (find (has_rowid (pos id)) rows))
    (before x r id is (of_each _ rows table.0 r later)) ∙ row_found rows r id table.1 later is

-- ---- a number that can't be read has no object

is_nothing : {X : Type 0} (o : Option X) → is_none o ≡ true → o ≡ None
is_nothing None is = refl
is_nothing (Some x) is = absurd (let e = is in cc)

no_object : (db : Database) → IsTable (db.trees 0) → (r : Row) → Has (db.trees 0) r → (u : Unread)
    → unread_in r ≡ Some u → is_none (node_at (rows_of db).read u.id) ≡ true
no_object db table r there u is =
    let parts = unread_parts r u is in
    let number = number_is (rowid r) u.id parts.1 in
    ap is_none (node_at_row db u.id table ∙ ap (option_and_then (λ r. node_in (shown_node r)))
    (row_found (db.trees 0) r u.id table there number.0)) ∙ parts.0

apart_step : (test : ℕ → Bool) (o : Option Unread) (rest : List Unread)
    → ((u : Unread) → o ≡ Some u → test u.id ≡ true)
    → list_all test (map (λ (u : Unread). u.id) rest) ≡ true
    → list_all test (map (λ (u : Unread). u.id) (cons_option o rest)) ≡ true
apart_step test None rest here more = more
apart_step test (Some u) rest here more =
    and_from (test u.id) (list_all test (map (λ (u : Unread). u.id) rest)) (here u refl) more

apart_in : (db : Database) → IsTable (db.trees 0) → (rows : List Row)
    → ((r : Row) → Has rows r → Has (db.trees 0) r)
    → list_all (λ id. is_none (node_at (rows_of db).read id))
    (map (λ (u : Unread). u.id) (unread_of rows)) ≡ true
apart_in db table [] within = refl
apart_in db table (r ∷ rows) within =
    apart_step (λ id. is_none (node_at (rows_of db).read id)) (unread_in r)
    (unread_of rows) (no_object db table r (within r (inl refl)))
    (apart_in db table rows (λ x there. within x (inr there)))

-- ---- bytes belong to a number in use

among_number : (a id : ℕ) (l : List ℕ) → a ≡ id → is_among (put_number a l) id ≡ true
among_number a id [] same = or_left (a == id) false (eq-eqb a id same)
among_number a id (o ∷ os) same = elim (cases_Bool (nat_lt o a)) [
  | inl low ↦ ap (λ b. is_among (if b then o ∷ put_number a os else a ∷ o ∷ os) id) low
      ∙ or_right (o == id) (is_among (put_number a os) id) (among_number a id os same)
  | inr high ↦ ap (λ b. is_among (if b then o ∷ put_number a os else a ∷ o ∷ os) id) high
      ∙ or_left (a == id) (is_among (o ∷ os) id) (eq-eqb a id same)
]

among_other : (a id : ℕ) (l : List ℕ) → is_among l id ≡ true → is_among (put_number a l) id ≡ true
among_other a id [] there = absurd (let e = there in cc)
among_other a id (o ∷ os) there = elim (cases_Bool (nat_lt o a)) [
  | inl low ↦ ap (λ b. is_among (if b then o ∷ put_number a os else a ∷ o ∷ os) id) low
      ∙ elim (Rattle.std.proofs.lemmas.Bool.or_cases (o == id) (is_among os id) there) [
        | inl here ↦ or_left (o == id) (is_among (put_number a os) id) here
        | inr later ↦ or_right (o == id) (is_among (put_number a os) id) (among_other a id os later)
      ]
  | inr high ↦ ap (λ b. is_among (if b then o ∷ put_number a os else a ∷ o ∷ os) id) high
      ∙ or_right (a == id) (is_among (o ∷ os) id) there
]

among_first : (id : ℕ) (us ids : List ℕ) → is_among us id ≡ true → is_among (put_numbers us ids) id
    ≡ true
among_first id [] ids there = absurd (let e = there in cc)
among_first id (u ∷ us) ids there =
    elim (Rattle.std.proofs.lemmas.Bool.or_cases (u == id) (is_among us id) there) [
      | inl here ↦ among_number u id (put_numbers us ids) (eqb-true u id here)
      | inr later ↦ among_other u id (put_numbers us ids) (among_first id us ids later)
    ]

among_second : (id : ℕ) (us ids : List ℕ) → is_among ids id ≡ true → is_among (put_numbers us ids)
    id ≡ true
among_second id [] ids there = there
among_second id (u ∷ us) ids there = among_other u id (put_numbers us ids)
    (among_second id us ids there)

among_nodes : (id : ℕ) (nodes : List Node) (n : Node) → find (λ (m : Node). m.id == id) nodes ≡ Some
    n → is_among (map (λ (m : Node). m.id) nodes) id ≡ true
among_nodes id [] n found = absurd (none-some n found)
among_nodes id (m ∷ nodes) n found = elim (cases_Bool (m.id == id)) [
  | inl here ↦ or_left (m.id == id) _ here
  | inr other ↦ or_right (m.id == id) _
      (among_nodes id nodes n (sym (find_no (λ (m : Node). m.id == id) m nodes other) ∙ found))
]

pub number_in-low : (id : ℕ) → 0 < id → number_in (Int (pos id)) ≡ Some id
number_in-low id low = cond-true (nat_lt 0 id) (Some id) None (lt-ltb 0 id low)

told : (b : Bool) → is_true (from_truth (Some b)) ≡ b
told true = refl
told false = refl

-- a row with a number is read as an object, or can't be read
in_use : (db : Database) → IsTable (db.trees 0) → (r : Row) → Has (db.trees 0) r → (id : ℕ)
    → rowid r ≡ Int (pos id) → number_in (Int (pos id)) ≡ Some id
    → is_among (numbers_of (rows_of db)) id ≡ true
in_use db table r there id is number = by (node_in (shown_node r)) refl
  where
    by : (o : Option Node) → node_in (shown_node r) ≡ o → is_among (numbers_of (rows_of db)) id
        ≡ true
    by (Some n) seen =
        among_second id (unread_numbers (rows_of db)) (map (λ (m : Node). m.id) (nodes_of (db.trees 0)))
        (among_nodes id (nodes_of (db.trees 0)) n (node_at_row db id table
        ∙ ap (option_and_then (λ r. node_in (shown_node r))) (row_found (db.trees 0) r id table
        there is) ∙ seen))
    by None seen =
        among_first id (unread_numbers (rows_of db)) (map (λ (m : Node). m.id) (nodes_of (db.trees 0)))
        (unread_at_row db id table
        ∙ ap (λ o. is_some (option_and_then unread_in o))
        (row_found (db.trees 0) r id table there is)
        ∙ ap (λ o. is_some (if is_none o then option_map (unread_with r) (number_in (rowid r))
        else None)) seen
        ∙ ap (λ v. is_some (option_map (unread_with r) (number_in v))) is
        ∙ ap (λ m. is_some (option_map (unread_with r) m)) number)

equal_rowid : (v : Value) (id : ℕ) → IsTrue (is_int v) → is_eq (value_cmp v (Int (pos id))) ≡ true
    → v ≡ Int (pos id)
equal_rowid (Int n) id int e = ap Int (same_int n (pos id) e)
equal_rowid Null id int e = absurd (let x = int in cc)
equal_rowid (Real y) id int e = absurd (let x = int in cc)
equal_rowid (Text t) id int e = absurd (let x = int in cc)
equal_rowid (Blob b) id int e = absurd (let x = int in cc)

cells_of : (id : ℕ) (r : Row) → rowid r ≡ Int (pos id) → r ≡ Int (pos id) ∷ drop 1 r
cells_of id [] h = absurd (let e = h in cc)
cells_of id (v ∷ cells) h = ap (λ x. x ∷ cells) h

truly : (a : Value) (n : ℤ) → is_true (binary (Compare Eq Binary) a (Int n)) ≡ is_eq
    (value_cmp a (Int n))
unfolding binary
truly Null n = sym (ap is_eq (value_cmp-Null (Int n)))
truly (Int m) n = told _
truly (Real x) n = told _
truly (Text t) n = told _
truly (Blob b) n = told _

-- the foreign key of a row of bytes
has_owner : (id : ℕ) (cells : Row) (db : Trees) → passes ForeignKey room_schema db
    (record bodies { tree = 2 }) (Int (pos id) ∷ cells) ≡ true
    → list_any (λ (p : Row). is_true (binary (Compare Eq Binary) (rowid p) (Int (pos id))) && true)
    (db 0) ≡ true
unfolding everything
has_owner id cells db h = (and_parts _ true h).0

is_table : Has room_schema.tables (record bodies { tree = 2 })
unfolding everything
is_table = inr (inl refl)

body_in_use : (db : Database) → IsRoom db → (b : Row) → Has (db.trees 2) b → (x : ℕ × List ℕ)
    → body_in b ≡ Some x → is_among (numbers_of (rows_of db)) x.0 ≡ true
body_in_use db room b there x is =
    let id = body_rowid b x is in
    let low = number_in-low x.0 (body_low b x is) in
    let sound = subst (λ s. Rattle.sqlite_catalog.specs.Listing.IsSound s db.trees) room.schema
    room.sound in
    let kept = keeps_at ForeignKey room_schema db.trees (record bodies { tree = 2 }) b
    (sound.obeys.rules ForeignKey) is_table there in
    let owned = some_has _ (db.trees 0) (has_owner x.0 (drop 1 b) db.trees
    (subst (λ r. passes ForeignKey room_schema db.trees (record bodies { tree = 2 }) r ≡ true)
    (cells_of x.0 b id) kept)) in
    let same = equal_rowid (rowid owned.0) x.0 (of_each _ (db.trees 0) room.nodes.1 owned.0 owned.1)
    (sym (truly (rowid owned.0) (pos x.0)) ∙ (and_parts _ true owned.2).0) in
    in_use db room.nodes.0 owned.0 owned.1 x.0 same low

bodies_step : (test : ℕ × List ℕ → Bool) (o : Option (ℕ × List ℕ)) (rest : List (ℕ × List ℕ))
    → ((x : ℕ × List ℕ) → o ≡ Some x → test x ≡ true) → list_all test rest ≡ true
    → list_all test (cons_option o rest) ≡ true
bodies_step test None rest here more = more
bodies_step test (Some x) rest here more = and_from (test x) (list_all test rest) (here x refl) more

bodies_in : (db : Database) → IsRoom db → (rows : List Row)
    → ((r : Row) → Has rows r → Has (db.trees 2) r)
    → list_all (λ (x : ℕ × List ℕ). is_among (numbers_of (rows_of db)) x.0) (bodies_of rows) ≡ true
bodies_in db room [] within = refl
bodies_in db room (r ∷ rows) within =
    bodies_step (λ (x : ℕ × List ℕ). is_among (numbers_of (rows_of db)) x.0) (body_in r)
    (bodies_of rows) (body_in_use db room r (within r (inl refl)))
    (bodies_in db room rows (λ x there. within x (inr there)))

pub room_rows : (db : Database) → IsRoom db → AreRows (rows_of db)
room_rows db room = record {
  numbers = nodes_rise (db.trees 0) room.nodes.0;
  unreadable = unread_rise (db.trees 0) room.nodes.0;
  apart = apart_in db room.nodes.0 (db.trees 0) (λ r there. there);
  body_numbers = bodies_rise (db.trees 2) room.bodies.0;
  bodies = bodies_in db room (db.trees 2) (λ r there. there);
  members = set_twice (filter_map pair_in (db.trees 3));
}
