-- What the rules of the schema say of the cells of a room's tables.
use Rattle.std.proofs.Common.{◌≡◌, ℕ, ◌+◌, suc, zero, List, [], ◌∷◌, Option, Some}
use Rattle.std.proofs.Common.{Bool, true, false, not, inl, inr, refl, sym, ap, subst, ◌∙◌, drop, arith}
use Rattle.std.proofs.Common.{slice_get, ◌||◌, ◌&&◌, if◌then◌else◌}
use Rattle.std.proofs.lemmas.Bool.{and_from, and_parts, false≢true, not-true}
use Rattle.std.specs.List.{list_any}
use Rattle.sqlite_rules.{specs.Lists.Has, proofs.RuleLemmas.keeps_at}
use Rattle.sqlite.specs.{Effect.Database, Kind.Kind, Order.{Row, column}, Table.Table, Tree.{Trees, rowid}}
use Rattle.sqlite.specs.Schema.{Schema}
use Rattle.sqlite.specs.Kind.TheVariants as kind
use Rattle.sqlite.specs.declared.types.Value.{Value, TheVariants.{Null, Int, Real, Text, Blob}}
use Rattle.sqlite_catalog.{proofs.AlterLemmas.keys_are_unique, specs.Listing.IsSound}
use Rattle.sqlite_schema.specs.declared.schema.{Column.Column, Constraint.TheVariants.{Datatype}}
use Rattle.sqlite_schema.specs.declared.schema.Constraint.TheVariants.{NotNull, ForeignKey}
use Rattle.sqlite_schema.specs.{Names.is_key, Rules.{agree, are_present, are_typed, clashes, differ}}
use Rattle.sqlite_schema.specs.Rules.{equal, is_of, passes, suits}
use Rattle.sqlite_sql.specs.Ops.{is_null}
use Rattle.sqlite_tied.specs.Compute.{everything}
use Rattle.sqlite_value.specs.{Keys.{first_key, plain}, declared.keys.Collation.TheVariants.Binary}
use Rattle.store_tables.specs.Tables as table
use Rattle.store_tables.specs.Trees as tree
use Rattle.store_tables.specs.NodeCells as node
use Rattle.store_tables.proofs.Apart.{any_none}
use Rattle.store_runs.specs.Rules.{AreApartAt, AreEqualAt, HasCellsOf, IsCellOf, IsNumbered, IsOfKind}
use Rattle.store_runs.specs.Rules.{TablesKeepRules}

-- ---- a cell

kind_is : (k : Kind) (v : Value) → is_of k v ≡ true → is_null v ≡ false → IsOfKind k v
kind_is kind.Any v is some = tt
kind_is kind.Integer (Int number) is some = tt
kind_is kind.Integer Null is some = absurd (false≢true (sym some))
kind_is kind.Integer (Real number) is some = absurd (false≢true is)
kind_is kind.Integer (Text text) is some = absurd (false≢true is)
kind_is kind.Integer (Blob bytes) is some = absurd (false≢true is)
kind_is kind.Real (Real number) is some = tt
kind_is kind.Real Null is some = absurd (false≢true (sym some))
kind_is kind.Real (Int number) is some = absurd (false≢true is)
kind_is kind.Real (Text text) is some = absurd (false≢true is)
kind_is kind.Real (Blob bytes) is some = absurd (false≢true is)
kind_is kind.Text (Text text) is some = tt
kind_is kind.Text Null is some = absurd (false≢true (sym some))
kind_is kind.Text (Int number) is some = absurd (false≢true is)
kind_is kind.Text (Real number) is some = absurd (false≢true is)
kind_is kind.Text (Blob bytes) is some = absurd (false≢true is)
kind_is kind.Blob (Blob bytes) is some = tt
kind_is kind.Blob Null is some = absurd (false≢true (sym some))
kind_is kind.Blob (Int number) is some = absurd (false≢true is)
kind_is kind.Blob (Real number) is some = absurd (false≢true is)
kind_is kind.Blob (Text text) is some = absurd (false≢true is)

null_is : (v : Value) → is_null v ≡ true → v ≡ Null
null_is Null is = refl
null_is (Int number) is = absurd (false≢true is)
null_is (Real number) is = absurd (false≢true is)
null_is (Text text) is = absurd (false≢true is)
null_is (Blob bytes) is = absurd (false≢true is)

cell_is : (c : Column) (v : Value) → is_of c.kind v ≡ true
    → (c.not_null ≡ true → is_null v ≡ false) → IsCellOf c v
cell_is c v typed present = on (is_null v) refl (c.not_null) refl
  where
    on : (b : Bool) → is_null v ≡ b → (must : Bool) → c.not_null ≡ must → IsCellOf c v
    on false some must is = inl (kind_is c.kind v typed some)
    on true none false is = inr (null_is v none, is)
    on true none true is = absurd (false≢true (sym (present is) ∙ none))

-- ---- each column

abbrev AllStrict : List Column → Type 0
AllStrict [] = Unit {0}
AllStrict (c ∷ cs) = (c.is_strict ≡ true) × AllStrict cs

module _ (key : Option ℕ) where
  strict_suits : (c : Column) (v : Value) → c.is_strict ≡ true → suits c v ≡ true
      → is_of c.kind v ≡ true
  strict_suits c v strict suited = cc

  typed_at : (cs : List Column) (from : ℕ) (row : List Value) (n : ℕ) (c : Column)
      → AllStrict cs → slice_get cs n ≡ Some c → is_key key (from + n) ≡ false
      → are_typed key from cs row ≡ true → is_of c.kind (column row n) ≡ true
  typed_at [] from row n c strict at isnt typed = absurd (let wrong : ⊥ = cc in wrong)
  typed_at (d ∷ cs) from [] zero c strict at isnt typed = refl
  typed_at (d ∷ cs) from [] (suc n) c strict at isnt typed =
      typed_at cs (from + 1) [] n c strict.1 at
      (subst (λ (k : ℕ). is_key key k ≡ false) (omega arith) isnt) (and_parts _ _ typed).1
  typed_at (d ∷ cs) from (v ∷ row) (suc n) c strict at isnt typed =
      typed_at cs (from + 1) row n c strict.1 at
      (subst (λ (k : ℕ). is_key key k ≡ false) (omega arith) isnt) (and_parts _ _ typed).1
  typed_at (d ∷ cs) from (v ∷ row) zero c strict at isnt typed =
      let same : d ≡ c = cc in
      let no_key : is_key key from ≡ false =
      subst (λ (k : ℕ). is_key key k ≡ false) (omega arith) isnt in
      let suited : suits d v ≡ true =
      subst (λ (b : Bool). (if b then is_null v else suits d v) ≡ true) no_key
      (and_parts (if is_key key from then is_null v else suits d v)
      (are_typed key (from + 1) cs row) typed).0 in
      subst (λ (e : Column). is_of e.kind v ≡ true) same (strict_suits d v strict.0 suited)

  present_at : (cs : List Column) (from : ℕ) (row : Row) (n : ℕ) (c : Column)
      → slice_get cs n ≡ Some c → is_key key (from + n) ≡ false → are_present key from cs row ≡ true
      → c.not_null ≡ true → is_null (column row (from + n + 1)) ≡ false
  present_at [] from row n c at isnt present must = absurd (let wrong : ⊥ = cc in wrong)
  present_at (d ∷ cs) from row (suc n) c at isnt present must =
      let moved : from + suc n ≡ from + 1 + n = omega arith in
      subst (λ (k : ℕ). is_null (column row (k + 1)) ≡ false) (sym moved)
      (present_at cs (from + 1) row n c at (subst (λ (k : ℕ). is_key key k ≡ false) moved isnt)
      (and_parts _ _ present).1 must)
  present_at (d ∷ cs) from row zero c at isnt present must =
      let here : from + 0 ≡ from = omega arith in
      let same : d ≡ c = cc in
      let no_key : is_key key from ≡ false = subst (λ (k : ℕ). is_key key k ≡ false) here isnt in
      let asked : d.not_null ≡ true = ap (λ (e : Column). e.not_null) same ∙ must in
      let void = is_null (column row (from + 1)) in
      let either : (is_key key from || not d.not_null || not void) ≡ true =
      (and_parts (is_key key from || not d.not_null || not void)
      (are_present key (from + 1) cs row) present).0 in
      let some : not void ≡ true =
      subst (λ (b : Bool). (false || not b || not void) ≡ true) asked
      (subst (λ (b : Bool). (b || not d.not_null || not void) ≡ true) no_key either) in
      subst (λ (k : ℕ). is_null (column row (k + 1)) ≡ false) (sym here) (not-true _ some)

after_number : (row : Row) (n : ℕ) → column (drop 1 row) n ≡ column row (n + 1)
after_number [] n = refl
after_number (v ∷ row) n =
    let next : suc n ≡ n + 1 = omega arith in ap (λ (k : ℕ). column (v ∷ row) k) next

module _ (db : Database) (obeys : IsSound table.room_schema db.trees) where
  cells_of : (t : Table) → Has table.room_schema.tables t → AllStrict t.columns
      → HasCellsOf t (db.trees t.tree)
  cells_of t listed strict row there at c is isnt =
      let typed = and_parts _ _
      (keeps_at Datatype table.room_schema db.trees t row (obeys.obeys.rules Datatype) listed there)
      in
      let present =
      keeps_at NotNull table.room_schema db.trees t row (obeys.obeys.rules NotNull) listed there in
      let start : 0 + at ≡ at = omega arith in
      let no_key : is_key t.key (0 + at) ≡ false =
      subst (λ (k : ℕ). is_key t.key k ≡ false) (sym start) isnt in
      cell_is c (column row (at + 1))
      (subst (λ (v : Value). is_of c.kind v ≡ true) (after_number row at)
      (typed_at t.key t.columns 0 (drop 1 row) at c strict is no_key typed.0))
      (λ must.
      subst (λ (k : ℕ). is_null (column row (k + 1)) ≡ false) start
      (present_at t.key t.columns 0 row at c is no_key present must))

-- ---- what stands once

any_some : {X : Type 0} (p : X → Bool) (xs : List X) → list_any p xs ≡ true
    → (x : X) × Has xs x × (p x ≡ true)
any_some p [] is = absurd (false≢true is)
any_some {X = X} p (x ∷ xs) is = on (p x) refl (any_some p xs)
  where
    on : (b : Bool) → p x ≡ b
        → (list_any p xs ≡ true → (y : X) × Has xs y × (p y ≡ true))
        → (y : X) × Has (x ∷ xs) y × (p y ≡ true)
    on true same later = (x, inl refl, same)
    on false same later =
        let rest : list_any p xs ≡ true =
        subst (λ (b : Bool). (b || list_any p xs) ≡ true) same is in
        let it = later rest in (it.0, inr it.1, it.2)

module _ (rows : List Row) (places : List ℕ)
    (agrees : (a b : Row) → AreEqualAt places a b → agree plain places a places b ≡ true) where
  apart : ((row : Row) → Has rows row → clashes plain places rows row ≡ false)
      → AreApartAt places rows
  apart none a b there other same =
      on (any_none (λ r. agree plain places r places b && differ (rowid r) (rowid b)) rows a
      (none b other) there)
    where
      on : (agree plain places a places b && differ (rowid a) (rowid b)) ≡ false
          → differ (rowid a) (rowid b) ≡ false
      on clash = cc (agrees a b same, clash)

one_agrees : (p : ℕ) (a b : Row) → AreEqualAt (p ∷ []) a b
    → agree plain (p ∷ []) a (p ∷ []) b ≡ true
unfolding first_key
one_agrees p a b same = and_from _ true same.0 refl

two_agree : (p q : ℕ) (a b : Row) → AreEqualAt (p ∷ q ∷ []) a b
    → agree plain (p ∷ q ∷ []) a (p ∷ q ∷ []) b ≡ true
unfolding first_key
two_agree p q a b same = and_from _ _ same.0 (and_from _ true same.1.0 refl)

-- ---- what is referred to

held : (db : Trees) (v : Value)
    → ((is_null v || false) || list_any (λ row. equal Binary (rowid row) v && true)
    (db tree.nodes)) ≡ true → IsNumbered db v
held db v is = on (is_null v) refl
  where
    on : (b : Bool) → is_null v ≡ b → IsNumbered db v
    on true none = inl (null_is v none)
    on false some =
        let found : list_any (λ row. equal Binary (rowid row) v && true) (db tree.nodes) ≡ true =
        subst (λ (b : Bool). ((b || false)
        || list_any (λ row. equal Binary (rowid row) v && true) (db tree.nodes)) ≡ true) some is in
        let it = any_some (λ row. equal Binary (rowid row) v && true) (db tree.nodes) found in
        inr (it.0, it.1, (and_parts _ _ it.2).0)

-- ---- the tables

abbrev nodes_table : Table
nodes_table = record table.nodes { tree = tree.nodes }

abbrev bodies_table : Table
bodies_table = record table.bodies { tree = tree.bodies }

abbrev members_table : Table
members_table = record table.members { tree = tree.members }

abbrev meta_table : Table
meta_table = record table.meta { tree = tree.meta }

abbrev audits_table : Table
audits_table = record table.audits { tree = tree.audits }

nodes_listed : Has table.room_schema.tables nodes_table
unfolding everything
nodes_listed = inl refl

bodies_listed : Has table.room_schema.tables bodies_table
unfolding everything
bodies_listed = inr (inl refl)

members_listed : Has table.room_schema.tables members_table
unfolding everything
members_listed = inr (inr (inl refl))

meta_listed : Has table.room_schema.tables meta_table
unfolding everything
meta_listed = inr (inr (inr (inl refl)))

audits_listed : Has table.room_schema.tables audits_table
unfolding everything
audits_listed = inr (inr (inr (inr (inl refl))))

parent_held : (db : Trees) (row : Row)
    → passes ForeignKey table.room_schema db nodes_table row ≡ true
    → IsNumbered db (column row node.parent)
unfolding everything first_key
parent_held db row is = held db (column row node.parent) (and_parts _ true is).0

node_held : (db : Trees) (row : Row)
    → passes ForeignKey table.room_schema db bodies_table row ≡ true → IsNumbered db (rowid row)
unfolding everything first_key
node_held db row is = held db (rowid row) (and_parts _ true is).0

pub tables_keep_rules : TablesKeepRules
tables_keep_rules db schema is =
    let obeys = subst (λ (s : Schema). IsSound s db.trees) schema is in
    record {
      nodes = cells_of db obeys nodes_table nodes_listed
          (refl, (refl, (refl, (refl, (refl, (refl, (refl, (refl, (refl, (refl, (refl, (refl, tt))))))))))));
      bodies = cells_of db obeys bodies_table bodies_listed
          (refl, (refl, tt));
      members = cells_of db obeys members_table members_listed
          (refl, (refl, tt));
      meta = cells_of db obeys meta_table meta_listed
          (refl, (refl, tt));
      audits = cells_of db obeys audits_table audits_listed
          (refl, (refl, (refl, (refl, (refl, (refl, (refl, tt)))))));
      parents =
          λ row there.
          parent_held db.trees row
          (keeps_at ForeignKey table.room_schema db.trees nodes_table row
          (obeys.obeys.rules ForeignKey) nodes_listed there);
      bytes =
          λ row there.
          node_held db.trees row
          (keeps_at ForeignKey table.room_schema db.trees bodies_table row
          (obeys.obeys.rules ForeignKey) bodies_listed there);
      names =
          apart (db.trees tree.nodes) (2 ∷ 3 ∷ []) (two_agree 2 3)
          (λ row there.
          keys_are_unique table.room_schema db.trees nodes_table 0 (2 ∷ 3 ∷ []) row obeys
          nodes_listed refl there);
      pairs =
          apart (db.trees tree.members) (2 ∷ 1 ∷ []) (two_agree 2 1)
          (λ row there.
          keys_are_unique table.room_schema db.trees members_table 0 (2 ∷ 1 ∷ []) row obeys
          members_listed refl there);
      keys =
          apart (db.trees tree.meta) (1 ∷ []) (one_agrees 1)
          (λ row there.
          keys_are_unique table.room_schema db.trees meta_table 0 (1 ∷ []) row obeys meta_listed
          refl there);
    }
