-- The rows of `nodes` by their numbers.
use Rattle.std.proofs.Common.{◌≡◌, ℕ, pos, negsuc, ◌<◌, List, ◌∷◌, map, find, Option, Some, None}
use Rattle.std.proofs.Common.{Bool, true, false, refl, ap, subst, ◌∙◌}
use Rattle.std.specs.Prelude.{option_and_then, option_map, is_none, is_some, nat_lt, if◌then◌else◌}
use Rattle.std.proofs.lemmas.Bool.{ltb-true}
use Rattle.sqlite.specs.declared.types.Value.{Value}
use Rattle.sqlite.specs.declared.types.Value.TheVariants.{Null, Int, Real, Text, Blob}
use Rattle.sqlite.specs.Order.{Row, column}
use Rattle.sqlite.specs.Tree.{rowid, has_rowid, IsTable}
use Rattle.sqlite.specs.Effect.{Database}
use Rattle.room_rows.specs.declared.node.Node.{Node}
use Rattle.room_rows.specs.Content.{node_at, is_rising}
use Rattle.room_rows.specs.Rows.{Unread, is_unreadable}
use Rattle.store_tables.specs.Shown.{shown_node}
use Rattle.store_tables.specs.Meaning.{number_in, parent_in, text_in, kind_in, owners_in, held_in}
use Rattle.store_tables.specs.Meaning.{node_in, unread_in, body_row, body_in, nodes_of, unread_of}
use Rattle.store_tables.specs.Meaning.{rows_of, unread_with}
use Rattle.store_tables.specs.Keyed.{find_key, rises_from_one, among_found}

-- ---- numbers

positive : (n id : ℕ) (b : Bool) → nat_lt 0 n ≡ b → (if b then Some n else None) ≡ Some id
    → (n ≡ id) × (0 < id)
positive n id true low is = let same : n ≡ id =
    cc in (same, subst (λ m. 0 < m) same (ltb-true 0 n low))
positive n id false low is = absurd (let e = is in cc)

pub number_is : (v : Value) (id : ℕ) → number_in v ≡ Some id → (v ≡ Int (pos id)) × (0 < id)
number_is Null id is = absurd (let e = is in cc)
number_is (Int (pos n)) id is = let it = positive n id (nat_lt 0 n) refl is in
    (ap (λ m. Int (pos m)) it.0, it.1)
number_is (Int (negsuc n)) id is = absurd (let e = is in cc)
number_is (Real x) id is = absurd (let e = is in cc)
number_is (Text t) id is = absurd (let e = is in cc)
number_is (Blob b) id is = absurd (let e = is in cc)

bound_some : {A B : Type 0} (f : A → Option B) (x : Option A) (y : B) → option_and_then f x ≡ Some y
    → (a : A) × (x ≡ Some a) × (f a ≡ Some y)
bound_some f None y h = absurd (let e = h in cc)
bound_some f (Some a) y h = (a, refl, h)

mapped_some : {A B : Type 0} (f : A → B) (x : Option A) (y : B) → option_map f x ≡ Some y → (a : A)
    × (x ≡ Some a) × (f a ≡ y)
mapped_some f None y h = absurd (let e = h in cc)
mapped_some f (Some a) y h = (a, refl, let e = h in cc)

-- the parts of an object as its columns say
pub record HasParts (r : Row) (n : Node) : Type 0 where
  pub number : number_in (column r 0) ≡ Some n.id
  pub parent : parent_in (column r 1) ≡ Some n.parent
  pub name : text_in (column r 2) ≡ Some n.name
  pub kind : kind_in (column r 3) ≡ Some n.kind
  pub owners : owners_in (column r 4) (column r 5) ≡ Some n.owners
  pub dacl : held_in (column r 6) (column r 8) (column r 9) ≡ Some n.dacl
  pub sacl : held_in (column r 7) (column r 10) (column r 11) ≡ Some n.sacl

pub node_parts : (r : Row) (n : Node) → node_in r ≡ Some n → HasParts r n
node_parts r n h =
    let a = bound_some _ (number_in (column r 0)) n h in
    let b = bound_some _ (parent_in (column r 1)) n a.2 in
    let c = bound_some _ (text_in (column r 2)) n b.2 in
    let d = bound_some _ (kind_in (column r 3)) n c.2 in
    let e = bound_some _ (owners_in (column r 4) (column r 5)) n d.2 in
    let f = bound_some _ (held_in (column r 6) (column r 8) (column r 9)) n e.2 in
    let g = mapped_some _ (held_in (column r 7) (column r 10) (column r 11)) n f.2 in
    record {
      number = a.1 ∙ ap Some (ap (λ (n : Node). n.id) g.2);
      parent = b.1 ∙ ap Some (ap (λ (n : Node). n.parent) g.2);
      name = c.1 ∙ ap Some (ap (λ (n : Node). n.name) g.2);
      kind = d.1 ∙ ap Some (ap (λ (n : Node). n.kind) g.2);
      owners = e.1 ∙ ap Some (ap (λ (n : Node). n.owners) g.2);
      dacl = f.1 ∙ ap Some (ap (λ (n : Node). n.dacl) g.2);
      sacl = g.1 ∙ ap Some (ap (λ (n : Node). n.sacl) g.2);
    }

pub node_keyed : (r : Row) (n : Node) → node_in (shown_node r) ≡ Some n → rowid r ≡ Int (pos n.id)
node_keyed r n is = (number_is (rowid r) n.id (node_parts (shown_node r) n is).number).0

node_low : (r : Row) (n : Node) → node_in (shown_node r) ≡ Some n → 0 < n.id
node_low r n is = (number_is (rowid r) n.id (node_parts (shown_node r) n is).number).1

-- what can't be read is no object, and has the number of its row
pub unread_parts : (r : Row) (u : Unread) → unread_in r ≡ Some u
    → (is_none (node_in (shown_node r)) ≡ true) × (number_in (rowid r) ≡ Some u.id)
unread_parts r u is = by (is_none (node_in (shown_node r))) (number_in (rowid r)) is
  where
    by : (b : Bool) (x : Option ℕ)
        → (if b then option_map (unread_with r) x else None) ≡ Some u
        → (b ≡ true) × (x ≡ Some u.id)
    by true (Some id) e = (refl, ap (option_map (λ (w : Unread). w.id)) e)
    by true None e = absurd (let z = e in cc)
    by false x e = absurd (let z = e in cc)

pub unread_keyed : (r : Row) (u : Unread) → unread_in r ≡ Some u → rowid r ≡ Int (pos u.id)
unread_keyed r u is = (number_is (rowid r) u.id (unread_parts r u is).1).0

unread_low : (r : Row) (u : Unread) → unread_in r ≡ Some u → 0 < u.id
unread_low r u is = (number_is (rowid r) u.id (unread_parts r u is).1).1

body_keyed : (v w : Value) (x : ℕ × List ℕ) → body_row (number_in v) w ≡ Some x
    → number_in v ≡ Some x.0
body_keyed v w x is = by (number_in v) w is
  where
    by : (n : Option ℕ) (w : Value) → body_row n w ≡ Some x → n ≡ Some x.0
    by (Some id) (Blob bytes) e = let same : (id, bytes) ≡ x =
        cc in ap (λ (y : ℕ × List ℕ). Some y.0) same
    by (Some id) Null e = absurd (let z = e in cc)
    by (Some id) (Int n) e = absurd (let z = e in cc)
    by (Some id) (Real y) e = absurd (let z = e in cc)
    by (Some id) (Text t) e = absurd (let z = e in cc)
    by None w e = absurd (let z = e in cc)

-- ---- what the rows have at a number

-- the object of a number is what the row of that number is read as
pub node_at_row : (db : Database) (id : ℕ) → IsTable (db.trees 0) → node_at (rows_of db).read id
    ≡ option_and_then (λ r. node_in (shown_node r)) (find (has_rowid (pos id)) (db.trees 0))
node_at_row db id table = find_key (λ r. node_in (shown_node r)) (λ (n : Node). n.id) node_keyed id
    (db.trees 0) table

pub unread_at_row : (db : Database) (id : ℕ) → IsTable (db.trees 0) → is_unreadable (rows_of db) id
    ≡ is_some (option_and_then unread_in (find (has_rowid (pos id)) (db.trees 0)))
unread_at_row db id table = among_found (λ (u : Unread). u.id) id (unread_of (db.trees 0))
    ∙ ap is_some (find_key unread_in (λ (u : Unread). u.id) unread_keyed id (db.trees 0) table)

-- ---- the numbers rise

pub nodes_rise : (rows : List Row) → IsTable rows
    → is_rising (0 ∷ map (λ (n : Node). n.id) (nodes_of rows)) ≡ true
nodes_rise rows table = rises_from_one (λ r. node_in (shown_node r)) (λ (n : Node). n.id) node_keyed
    node_low rows table

pub unread_rise : (rows : List Row) → IsTable rows
    → is_rising (0 ∷ map (λ (u : Unread). u.id) (unread_of rows)) ≡ true
unread_rise rows table = rises_from_one unread_in (λ (u : Unread). u.id) unread_keyed unread_low
    rows table

pub body_rowid : (r : Row) (x : ℕ × List ℕ) → body_in r ≡ Some x → rowid r ≡ Int (pos x.0)
body_rowid r x is = (number_is (rowid r) x.0 (body_keyed (rowid r) (column r 2) x is)).0

pub body_low : (r : Row) (x : ℕ × List ℕ) → body_in r ≡ Some x → 0 < x.0
body_low r x is = (number_is (rowid r) x.0 (body_keyed (rowid r) (column r 2) x is)).1

pub bodies_rise : (rows : List Row) → IsTable rows
    → is_rising (0 ∷ map (λ (x : ℕ × List ℕ). x.0) (Rattle.store_tables.specs.Meaning.bodies_of
    rows)) ≡ true
bodies_rise rows table = rises_from_one body_in (λ (x : ℕ × List ℕ). x.0) body_rowid body_low rows
    table
