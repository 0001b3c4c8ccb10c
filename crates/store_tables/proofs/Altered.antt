-- What the rows mean once some columns of an object's row are written.
use Rattle.std.proofs.Common.{◌≡◌, ℕ, ℤ, pos, List, [], ◌∷◌, find, None, Some, Option, refl, sym}
use Rattle.std.proofs.{Common.{ap, subst, ◌∙◌, arith}, lemmas.Option.none-some}
use Rattle.std.proofs.lemmas.Bool.Decides.{nat_tests}
use Rattle.sqlite.specs.{declared.types.Value.{Value, TheVariants.{Int, Text}}, Cast.cast}
use Rattle.sqlite.specs.{Order.{Row, column}, Tree.has_rowid, Effect.Database}
use Rattle.room_entry.specs.{Ace.Ace, declared.{flags.ListFlags.ListFlags, object.ObjKind.ObjKind}}
use Rattle.room_entry.specs.declared.object.Which.{Which, TheVariants.{Dacl, Sacl}}
use Rattle.room_entry.specs.declared.parties.Owners.{Owners}
use Rattle.room_rows.specs.{HeldList.Held, declared.node.Node.Node, Content.with_node}
use Rattle.room_rows.specs.{Held.with_held, Keep.{with_content, with_inh, with_owners, with_place}}
use Rattle.room_rows.proofs.{Frames.node_at-number, InPlace.{with_inh-id, with_held-id}}
use Rattle.store_tables.specs.{Filed.node_at_row, Meaning.{number_in, parent_in, kind_in, flags_in}}
use Rattle.store_tables.specs.Meaning.{text_in, name_of_text, name_in, entries_in, given}
use Rattle.store_tables.specs.Meaning.{given_last, held_in, owners_in, node_in, rows_of}
use Rattle.store_tables.specs.Shown.{IsRoom, Recasts, sets_held, sets_inh, sets_owners, sets_place}
use Rattle.store_tables.specs.{Shown.{shown_node, stored_node}, Trust.Alters}
use Rattle.store_tables.proofs.{Recast.recast, Replaced.replaced_rows, Updates.cast_int}
use Rattle.store_tables.proofs.Updates.{cast_null}
use Rattle.sqlite.specs.Kind.TheVariants as kind

-- ---- what is read goes on

given_some : {A B : Type 0} (o : Option A) (f : A → Option B) (b : B) → given o f ≡ Some b → (a : A)
    × (o ≡ Some a) × (f a ≡ Some b)
given_some None f b e = absurd (none-some b e)
given_some (Some a) f b e = (a, refl, e)

giving_some : {A B : Type 0} (o : Option A) (f : A → B) (b : B) → given_last o f ≡ Some b → (a : A)
    × (o ≡ Some a) × (f a ≡ b)
giving_some None f b e = absurd (none-some b e)
giving_some (Some a) f b e = (a, refl, cc)

-- ---- a value that is read has its column's type

abbrev IsInteger : Value → Type 0
IsInteger v = cast kind.Integer v ≡ v

abbrev IsText : Value → Type 0
IsText v = cast kind.Text v ≡ v

parent_typed : (v : Value) (p : Option ℕ) → parent_in v ≡ Some p → IsInteger v
parent_typed v p e = grind (arith, nat_tests, cast_int, cast_null)

kind_typed : (v : Value) (k : ObjKind) → kind_in v ≡ Some k → IsInteger v
kind_typed v k e = grind (arith, nat_tests, cast_int)

flags_typed : (v : Value) (f : ListFlags) → flags_in v ≡ Some f → IsInteger v
flags_typed v f e = grind (arith, nat_tests, cast_int)

text_typed : (v : Value) (t : List ℕ) → text_in v ≡ Some t → IsText v
text_typed v t e = grind (arith, nat_tests)

name_typed : (v : Value) (t : List ℕ) → name_in v ≡ Some t → IsText v
name_typed v t e = let p = given_some (text_in v) name_of_text t e in text_typed v p.0 p.1

entries_typed : (v : Value) (l : List Ace) → entries_in v ≡ Some l → IsText v
entries_typed v l e = grind (arith, nat_tests)

-- ---- a row that is read, value by value

record ReadsHeld (f o i : Value) (h : Held) : Type 0 where
  flags : flags_in f ≡ Some h.flags
  own : entries_in o ≡ Some h.own
  inh : entries_in i ≡ Some h.inh

reads_held : (flags own inh : Value) (h : Held) → held_in flags own inh ≡ Some h
    → ReadsHeld flags own inh h
reads_held flags own inh h e = grind (arith, nat_tests, given_some, giving_some)

-- what the cells after the number are read as
record ReadsCells (v2 v3 v4 v5 v6 v7 v8 v9 v10 v11 v12 : Value) (n : Node) : Type 0 where
  parent : parent_in v2 ≡ Some n.parent
  name : text_in v3 ≡ Some n.name
  kind : kind_in v4 ≡ Some n.kind
  owner : name_in v5 ≡ Some n.owners.owner
  group : name_in v6 ≡ Some n.owners.group
  dacl : ReadsHeld v7 v9 v10 n.dacl
  sacl : ReadsHeld v8 v11 v12 n.sacl

module _ (v2 v3 v4 v5 v6 v7 v8 v9 v10 v11 v12 : Value) (n : Node) where
  reads_cells : (v0 : Value)
      → node_in (v0 ∷ v2 ∷ v3 ∷ v4 ∷ v5 ∷ v6 ∷ v7 ∷ v8 ∷ v9 ∷ v10 ∷ v11 ∷ v12 ∷ []) ≡ Some n
      → ReadsCells v2 v3 v4 v5 v6 v7 v8 v9 v10 v11 v12 n
  reads_cells v0 e =
      let a = given_some (number_in v0) _ n e in
      let b = given_some (parent_in v2) _ n a.2 in
      let c = given_some (text_in v3) _ n b.2 in
      let d = given_some (kind_in v4) _ n c.2 in
      let o = given_some (owners_in v5 v6) _ n d.2 in
      let x = given_some (held_in v7 v9 v10) _ n o.2 in
      let y = giving_some (held_in v8 v11 v12) _ n x.2 in
      let first = given_some (name_in v5) _ o.0 o.1 in
      let second = giving_some (name_in v6) _ o.0 first.2 in
      let owners : o.0 ≡ n.owners = ap (λ (m : Node). m.owners) y.2 in
      record {
        parent = b.1 ∙ ap (λ (m : Node). Some m.parent) y.2;
        name = c.1 ∙ ap (λ (m : Node). Some m.name) y.2;
        kind = d.1 ∙ ap (λ (m : Node). Some m.kind) y.2;
        owner = first.1 ∙ ap (λ (w : Owners). Some w.owner) (second.2 ∙ owners);
        group = second.1 ∙ ap (λ (w : Owners). Some w.group) (second.2 ∙ owners);
        dacl =
            subst (ReadsHeld v7 v9 v10) (ap (λ (m : Node). m.dacl) y.2)
            (reads_held v7 v9 v10 x.0 x.1);
        sacl =
            subst (ReadsHeld v8 v11 v12) (ap (λ (m : Node). m.sacl) y.2)
            (reads_held v8 v11 v12 y.0 y.1);
      }

  -- the columns leave cells that are read
  recast_same : ReadsCells v2 v3 v4 v5 v6 v7 v8 v9 v10 v11 v12 n
      → recast (v2 ∷ v3 ∷ v4 ∷ v5 ∷ v6 ∷ v7 ∷ v8 ∷ v9 ∷ v10 ∷ v11 ∷ v12 ∷ []) ≡ v2 ∷ v3 ∷ v4 ∷ v5
      ∷ v6 ∷ v7 ∷ v8 ∷ v9 ∷ v10 ∷ v11 ∷ v12 ∷ []
  recast_same s = rw (
    parent_typed v2 _ s.parent,
    text_typed v3 _ s.name,
    kind_typed v4 _ s.kind,
    name_typed v5 _ s.owner,
    name_typed v6 _ s.group,
    flags_typed v7 _ s.dacl.flags,
    flags_typed v8 _ s.sacl.flags,
    entries_typed v9 _ s.dacl.own,
    entries_typed v10 _ s.dacl.inh,
    entries_typed v11 _ s.sacl.own,
    entries_typed v12 _ s.sacl.inh,
  ) refl

  -- and they are read back
  read_back : (id : ℕ) → number_in (Int (pos id)) ≡ Some n.id
      → ReadsCells v2 v3 v4 v5 v6 v7 v8 v9 v10 v11 v12 n
      → node_in
      (shown_node
      (stored_node (pos id) (v2 ∷ v3 ∷ v4 ∷ v5 ∷ v6 ∷ v7 ∷ v8 ∷ v9 ∷ v10 ∷ v11 ∷ v12 ∷ [])))
      ≡ Some n
  read_back id number s = grind (arith, nat_tests)

  stored_again : (id : ℕ) → number_in (Int (pos id)) ≡ Some n.id
      → ReadsCells v2 v3 v4 v5 v6 v7 v8 v9 v10 v11 v12 n
      → node_in
      (shown_node
      (stored_node (pos id)
      (recast (v2 ∷ v3 ∷ v4 ∷ v5 ∷ v6 ∷ v7 ∷ v8 ∷ v9 ∷ v10 ∷ v11 ∷ v12 ∷ [])))) ≡ Some n
  stored_again id number s = grind (arith, nat_tests, read_back, recast_same)

-- ---- some columns written

module _ (id : ℕ) (r : Row) (before : Node) (number : number_in (Int (pos id)) ≡ Some before.id)
    (e : node_in (shown_node r) ≡ Some before) where
  -- the cells of the row, as they are read
  known : ReadsCells (column r 2) (column r 3) (column r 4) (column r 5) (column r 6) (column r 7)
      (column r 8) (column r 9) (column r 10) (column r 11) (column r 12) before
  known = search (reads_cells)

  pub inherits_back : (which : Which) (text : List ℕ) (entries : List Ace)
      → entries_in (Text text) ≡ Some entries
      → node_in (shown_node (stored_node (pos id) (recast (sets_inh which text r))))
      ≡ Some (with_inh which entries before)
  inherits_back Dacl text entries back =
      stored_again (column r 2) (column r 3) (column r 4) (column r 5) (column r 6) (column r 7)
      (column r 8) (column r 9) (Text text) (column r 11) (column r 12)
      (with_inh Dacl entries before) id number (search (known))
  inherits_back Sacl text entries back =
      stored_again (column r 2) (column r 3) (column r 4) (column r 5) (column r 6) (column r 7)
      (column r 8) (column r 9) (column r 10) (column r 11) (Text text)
      (with_inh Sacl entries before) id number (search (known))

  holds_back : (which : Which) (flags : ℤ) (own inh : List ℕ) (held : Held)
      → flags_in (Int flags) ≡ Some held.flags → entries_in (Text own) ≡ Some held.own
      → entries_in (Text inh) ≡ Some held.inh
      → node_in (shown_node (stored_node (pos id) (recast (sets_held which flags own inh r))))
      ≡ Some (with_held which held before)
  holds_back Dacl flags own inh held p q t =
      stored_again (column r 2) (column r 3) (column r 4) (column r 5) (column r 6) (Int flags)
      (column r 8) (Text own) (Text inh) (column r 11) (column r 12)
      (with_held Dacl held before) id number (search (known))
  holds_back Sacl flags own inh held p q t =
      stored_again (column r 2) (column r 3) (column r 4) (column r 5) (column r 6) (column r 7)
      (Int flags) (column r 9) (column r 10) (Text own) (Text inh)
      (with_held Sacl held before) id number (search (known))

  owns_back : (owner group : List ℕ) (owners : Owners) → name_in (Text owner) ≡ Some owners.owner
      → name_in (Text group) ≡ Some owners.group
      → node_in (shown_node (stored_node (pos id) (recast (sets_owners owner group r))))
      ≡ Some (with_owners owners before)
  owns_back owner group owners p q =
      stored_again (column r 2) (column r 3) (column r 4) (Text owner) (Text group) (column r 7)
      (column r 8) (column r 9) (column r 10) (column r 11) (column r 12)
      (with_owners owners before) id number (search (known))

  lies_back : (index : ℤ) (text : List ℕ) (parent : ℕ) (name : List ℕ)
      → parent_in (Int index) ≡ Some (Some parent) → text_in (Text text) ≡ Some name
      → node_in (shown_node (stored_node (pos id) (recast (sets_place index text r))))
      ≡ Some (with_place parent name before)
  lies_back index text parent name p q =
      stored_again (Int index) (Text text) (column r 4) (column r 5) (column r 6) (column r 7)
      (column r 8) (column r 9) (column r 10) (column r 11) (column r 12)
      (with_place parent name before) id number (search (known))

-- ---- the object is changed

module _ (db next : Database) (id : ℕ) (room : IsRoom db)
    (number : number_in (Int (pos id)) ≡ Some id) where
  -- the row is written with cells that are read as the changed object
  altered : (cells : Row → Row) (change : Node → Node) → ((n : Node) → (change n).id ≡ n.id)
      → ((r : Row) (before : Node) → number_in (Int (pos id)) ≡ Some before.id
      → node_in (shown_node r) ≡ Some before
      → node_in (shown_node (stored_node (pos id) (recast (cells r)))) ≡ Some (change before))
      → Recasts cells (pos id) db.trees next.trees → Alters id change db next
  altered cells change keeps back put before there =
      by (find (has_rowid (pos id)) (db.trees 0)) refl
    where
      by : (o : Option Row) → find (has_rowid (pos id)) (db.trees 0) ≡ o
          → rows_of next ≡ with_content (rows_of db) (with_node (rows_of db).read (change before))
      by None found =
          absurd
          (none-some before (cc (found, node_at_row db id room.nodes.0, there)))
      by (Some r) found =
          let seen : node_in (shown_node r) ≡ Some before =
          cc (found, node_at_row db id room.nodes.0, there) in
          let is = node_at-number (rows_of db).read id before there in
          replaced_rows db next id (recast (cells r)) before (change before) room there
          (back r before (number ∙ ap Some (sym is)) seen) (keeps before ∙ is) (put r found)

  pub inherited_rows : (which : Which) (text : List ℕ) (entries : List Ace)
      → entries_in (Text text) ≡ Some entries
      → Recasts (sets_inh which text) (pos id) db.trees next.trees
      → Alters id (with_inh which entries) db next
  inherited_rows which text entries back = search (altered, inherits_back, with_inh-id)

  pub held_rows : (which : Which) (flags : ℤ) (own inh : List ℕ) (held : Held)
      → flags_in (Int flags) ≡ Some held.flags → entries_in (Text own) ≡ Some held.own
      → entries_in (Text inh) ≡ Some held.inh
      → Recasts (sets_held which flags own inh) (pos id) db.trees next.trees
      → Alters id (with_held which held) db next
  held_rows which flags own inh held p q t = search (altered, holds_back, with_held-id)

  pub owned_rows : (owner group : List ℕ) (owners : Owners)
      → name_in (Text owner) ≡ Some owners.owner → name_in (Text group) ≡ Some owners.group
      → Recasts (sets_owners owner group) (pos id) db.trees next.trees
      → Alters id (with_owners owners) db next
  owned_rows owner group owners p q = search (altered, owns_back)

  pub placed_rows : (index : ℤ) (text : List ℕ) (parent : ℕ) (name : List ℕ)
      → parent_in (Int index) ≡ Some (Some parent) → text_in (Text text) ≡ Some name
      → Recasts (sets_place index text) (pos id) db.trees next.trees
      → Alters id (with_place parent name) db next
  placed_rows index text parent name p q = search (altered, lies_back)
