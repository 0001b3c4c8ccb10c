-- What the statements show of the tables, and what each leaves.
use Rattle.std.specs.Prelude.{◌≡◌, ℕ, ℤ, List, [], ◌∷◌, ◌++◌, Bool, true, false, ◌&&◌, not}
use Rattle.std.specs.Prelude.{All, IsTrue, pos, drop, find, map, Some, if◌then◌else◌}
use Rattle.room_entry.specs.declared.object.Which.{Which}
use Rattle.room_entry.specs.declared.object.Which.TheVariants.{Dacl, Sacl}
use Rattle.sqlite_rules.specs.Cast.{cast_all}
use Rattle.std.specs.Ordering.{is_eq, is_gt, is_lt}
use Rattle.sqlite.specs.declared.types.Value.TheVariants.{Null, Int, Text, Blob}
use Rattle.sqlite.specs.Order.{Row, column, value_cmp}
use Rattle.sqlite.specs.Tree.{Trees, rowid, has_rowid, without_rowid, put_row}
use Rattle.sqlite_trees.specs.View.{IsShaped}
use Rattle.sqlite_trees.specs.declared.store.Shape.TheVariants.{Table}
use Rattle.sqlite.specs.Effect.{Database, IsDatabase}
use Rattle.sqlite.specs.State.{State, HasCleanDisk}
use Rattle.sqlite.specs.Edit.{next_rowid, is_taken}
use Rattle.store_tables.specs.Counters.{AreCounted, counted_to, next_record}
use Rattle.store_tables.specs.Tables.{nodes, room_schema}
use Rattle.store_tables.specs.Meaning.{IsRecord}
pub use Rattle.store_tables.specs.Meaning.{shown_node}
use Rattle.store_tables.specs.Within.{IsWithin}
use Rattle.store_tables.specs.Printed.{KeepsPrinted}
use Rattle.store_tables.specs.Trees as tree
use Rattle.store_tables.specs.NodeCells as cell
use Rattle.store_tables.specs.PairCells as pair

-- the pair of this user
abbrev pub is_user_row : List ℕ → Row → Bool
is_user_row user r = is_eq (value_cmp (column r pair.user) (Text user))

-- the row's number is from 1 on
abbrev pub is_numbered : Row → Bool
is_numbered r = not (is_lt (value_cmp (rowid r) (Int (pos 1))))

-- a numbered row without a parent
abbrev pub is_top : Row → Bool
is_top r = is_eq (value_cmp (column r cell.parent) Null) && is_numbered r

abbrev pub is_child : ℤ → Row → Bool
is_child parent r = is_eq (value_cmp (column r cell.parent) (Int parent)) && is_numbered r

abbrev pub is_child_named : ℤ → List ℕ → Row → Bool
is_child_named parent name r = is_eq (value_cmp (column r cell.parent) (Int parent)) &&
    (is_eq (value_cmp (column r cell.name) (Text name)) && is_numbered r)

-- the tables are those that `create` makes, in the order of their rowids
pub record IsRoom (db : Database) : Type 0 where
  pub schema : db.schema ≡ room_schema
  pub sound : IsDatabase db
  pub nodes : IsShaped Table (db.trees tree.nodes)
  pub bodies : IsShaped Table (db.trees tree.bodies)
  pub members : IsShaped Table (db.trees tree.members)
  pub audits : IsShaped Table (db.trees tree.audits)

-- the same, without that they obey their schema, which the connection ensures
pub record HasTables (db : Database) : Type 0 where
  pub schema : db.schema ≡ room_schema
  pub nodes : IsShaped Table (db.trees tree.nodes)
  pub bodies : IsShaped Table (db.trees tree.bodies)
  pub members : IsShaped Table (db.trees tree.members)
  pub audits : IsShaped Table (db.trees tree.audits)

pub room_of : {db : Database} → HasTables db → IsDatabase db → IsRoom db
room_of has sound = record {
  schema = has.schema;
  sound = sound;
  nodes = has.nodes;
  bodies = has.bodies;
  members = has.members;
  audits = has.audits;
}

pub tables_of : {db : Database} → IsRoom db → HasTables db
tables_of room = record {
  schema = room.schema;
  nodes = room.nodes;
  bodies = room.bodies;
  members = room.members;
  audits = room.audits;
}

-- the four tables that rows are read from are as they were, and so are `meta` and the counters
pub record KeepsAll (db next : Trees) : Type 0 where
  pub nodes : next tree.nodes ≡ db tree.nodes
  pub bodies : next tree.bodies ≡ db tree.bodies
  pub members : next tree.members ≡ db tree.members
  pub meta : next tree.meta ≡ db tree.meta
  pub audits : next tree.audits ≡ db tree.audits
  pub counters : next tree.counters ≡ db tree.counters

-- What every request keeps to: `meta` is as it was, and each row of `audits` is there with its
-- number. New rows come after them, each can be read as a record, and their numbers are the next
-- ones; the counter of records is at the last of them, or as it was. Where a list column was
-- written, it holds printed entries.
pub record Retains (db next : Trees) : Type 0 where
  pub meta : next tree.meta ≡ db tree.meta
  pub more : List Row
  pub audits : next tree.audits ≡ db tree.audits ++ more
  pub records : All IsRecord more
  pub counters : AreCounted (db tree.counters) (db tree.audits) more (next tree.counters)
  pub texts : KeepsPrinted (db tree.nodes) (next tree.nodes)

-- what any call inside a transaction leaves, whatever it answers
pub record Stays (old new : State) : Type 0 where
  -- whatever the tables are, nothing is committed
  pub within : IsWithin old new
  -- a room's tables stay those of a room
  pub room : HasCleanDisk new → IsTrue new.is_open → IsRoom old.committed → IsRoom old.now
      → IsRoom new.now
  -- what is seen retains what was committed
  pub retains : HasCleanDisk new → IsTrue new.is_open → IsRoom old.committed → IsRoom old.now
      → Retains old.committed.trees old.now.trees → Retains new.committed.trees new.now.trees

-- an object is taken out of the tables, with its bytes
pub record RemovesRow (id : ℤ) (db next : Trees) : Type 0 where
  pub nodes : next tree.nodes ≡ without_rowid id (db tree.nodes)
  pub bodies : next tree.bodies ≡ without_rowid id (db tree.bodies)
  pub members : next tree.members ≡ db tree.members
  pub meta : next tree.meta ≡ db tree.meta
  pub audits : next tree.audits ≡ db tree.audits
  pub counters : next tree.counters ≡ db tree.counters

-- a row of nodes as it is stored: its number, and what the other columns are given
abbrev pub stored_node : ℤ → Row → Row
stored_node id values = Int id ∷ Null ∷ values

-- the row of this number is replaced by this one
pub record Replaces (id : ℤ) (values : Row) (db next : Trees) : Type 0 where
  pub nodes : next tree.nodes ≡ put_row (stored_node id values) (without_rowid id (db tree.nodes))
  pub bodies : next tree.bodies ≡ db tree.bodies
  pub members : next tree.members ≡ db tree.members
  pub meta : next tree.meta ≡ db tree.meta
  pub audits : next tree.audits ≡ db tree.audits
  pub counters : next tree.counters ≡ db tree.counters

-- the cells of a row of nodes after its number, with this text for what a list inherits
abbrev pub sets_inh : Which → List ℕ → Row → Row
sets_inh Dacl text r = column r cell.parent ∷ column r cell.name ∷ column r cell.kind
    ∷ column r cell.owner ∷ column r cell.group
    ∷ column r cell.dacl_flags ∷ column r cell.sacl_flags ∷ column r cell.dacl_own ∷ Text text
    ∷ column r cell.sacl_own ∷ column r cell.sacl_inh ∷ []
sets_inh Sacl text r = column r cell.parent ∷ column r cell.name ∷ column r cell.kind
    ∷ column r cell.owner ∷ column r cell.group
    ∷ column r cell.dacl_flags ∷ column r cell.sacl_flags ∷ column r cell.dacl_own
    ∷ column r cell.dacl_inh ∷ column r cell.sacl_own ∷ Text text ∷ []

-- the same, with these flags and these texts for a list
abbrev pub sets_held : Which → ℤ → List ℕ → List ℕ → Row → Row
sets_held Dacl flags own inh r = column r cell.parent ∷ column r cell.name ∷ column r cell.kind
    ∷ column r cell.owner ∷ column r cell.group
    ∷ Int flags ∷ column r cell.sacl_flags ∷ Text own ∷ Text inh ∷ column r cell.sacl_own
    ∷ column r cell.sacl_inh ∷ []
sets_held Sacl flags own inh r = column r cell.parent ∷ column r cell.name ∷ column r cell.kind
    ∷ column r cell.owner ∷ column r cell.group
    ∷ column r cell.dacl_flags ∷ Int flags ∷ column r cell.dacl_own ∷ column r cell.dacl_inh
    ∷ Text own ∷ Text inh ∷ []

-- the same, with these owners
abbrev pub sets_owners : List ℕ → List ℕ → Row → Row
sets_owners owner group r = column r cell.parent ∷ column r cell.name ∷ column r cell.kind
    ∷ Text owner ∷ Text group ∷ column r cell.dacl_flags
    ∷ column r cell.sacl_flags ∷ column r cell.dacl_own ∷ column r cell.dacl_inh
    ∷ column r cell.sacl_own ∷ column r cell.sacl_inh ∷ []

-- the same, with this parent and this name
abbrev pub sets_place : ℤ → List ℕ → Row → Row
sets_place parent name r = Int parent ∷ Text name ∷ column r cell.kind ∷ column r cell.owner
    ∷ column r cell.group ∷ column r cell.dacl_flags
    ∷ column r cell.sacl_flags ∷ column r cell.dacl_own ∷ column r cell.dacl_inh
    ∷ column r cell.sacl_own ∷ column r cell.sacl_inh ∷ []

-- the row of this number is replaced by one of these cells, as the columns make them
abbrev pub Recasts : (Row → Row) → ℤ → Trees → Trees → Type 0
Recasts change id db next = (r : Row) → find (has_rowid id) (db tree.nodes) ≡ Some r
    → Replaces id (cast_all (drop 1 nodes.columns) (change r)) db next

-- the row's number is one from the first to the last
abbrev pub is_in_range : ℤ → ℤ → Row → Bool
is_in_range first last r =
    not (is_lt (value_cmp (rowid r) (Int first))) && not (is_gt (value_cmp (rowid r) (Int last)))

-- a row of these numbers with these cells, as the columns make them, and any other as it is
abbrev pub recast_in : (Row → Row) → ℤ → ℤ → Row → Row
recast_in change first last r =
    if is_in_range first last r
    then rowid r ∷ Null ∷ cast_all (drop 1 nodes.columns) (change r) else r

-- the rows of these numbers are replaced by ones of these cells
pub record RecastsAll (change : Row → Row) (first last : ℤ) (db next : Trees) : Type 0 where
  pub nodes : next tree.nodes ≡ map (recast_in change first last) (db tree.nodes)
  pub bodies : next tree.bodies ≡ db tree.bodies
  pub members : next tree.members ≡ db tree.members
  pub meta : next tree.meta ≡ db tree.meta
  pub audits : next tree.audits ≡ db tree.audits
  pub counters : next tree.counters ≡ db tree.counters

-- a row of bytes as it is stored
abbrev pub stored_body : ℤ → List ℕ → Row
stored_body id bytes = Int id ∷ Null ∷ Blob bytes ∷ []

-- the bytes of this number are taken out, and its object is left
pub record RemovesBytes (id : ℤ) (db next : Trees) : Type 0 where
  pub nodes : next tree.nodes ≡ db tree.nodes
  pub bodies : next tree.bodies ≡ without_rowid id (db tree.bodies)
  pub members : next tree.members ≡ db tree.members
  pub meta : next tree.meta ≡ db tree.meta
  pub audits : next tree.audits ≡ db tree.audits
  pub counters : next tree.counters ≡ db tree.counters

-- the bytes of this number are replaced
pub record Fills (id : ℤ) (bytes : List ℕ) (db next : Trees) : Type 0 where
  pub nodes : next tree.nodes ≡ db tree.nodes
  pub bodies : next tree.bodies ≡ put_row (stored_body id bytes) (without_rowid id (db tree.bodies))
  pub members : next tree.members ≡ db tree.members
  pub meta : next tree.meta ≡ db tree.meta
  pub audits : next tree.audits ≡ db tree.audits
  pub counters : next tree.counters ≡ db tree.counters

-- a row with this number, which none had, is put in
pub record AddsRow (id : ℤ) (values : Row) (db next : Trees) : Type 0 where
  pub number : id ≡ next_rowid (db tree.nodes)
  pub fresh : is_taken (db tree.nodes) (stored_node id values) ≡ false
  pub nodes : next tree.nodes ≡ put_row (stored_node id values) (db tree.nodes)
  pub bodies : next tree.bodies ≡ db tree.bodies
  pub members : next tree.members ≡ db tree.members
  pub meta : next tree.meta ≡ db tree.meta
  pub audits : next tree.audits ≡ db tree.audits
  pub counters : next tree.counters ≡ db tree.counters

-- bytes with this number, which had none, are put in
pub record Bodies (id : ℤ) (bytes : List ℕ) (db next : Trees) : Type 0 where
  pub fresh : is_taken (db tree.bodies) (stored_body id bytes) ≡ false
  pub nodes : next tree.nodes ≡ db tree.nodes
  pub bodies : next tree.bodies ≡ put_row (stored_body id bytes) (db tree.bodies)
  pub members : next tree.members ≡ db tree.members
  pub meta : next tree.meta ≡ db tree.meta
  pub audits : next tree.audits ≡ db tree.audits
  pub counters : next tree.counters ≡ db tree.counters

-- a document gets these bytes, and another object none
abbrev pub GetsBytes : Bool → ℤ → List ℕ → Database → Database → Type 0
GetsBytes true id bytes old new = Bodies id bytes old.trees new.trees
GetsBytes false id bytes old new = new ≡ old

-- a row of audits as it is stored
abbrev pub stored_record : ℤ → Row → Row
stored_record seq values = Int seq ∷ Null ∷ values

-- a record is put in after the others, with the next number, and counted
pub record AddsRecordRow (values : Row) (db next : Trees) : Type 0 where
  pub seq : ℤ
  pub number : seq ≡ next_record (db tree.counters) (db tree.audits)
  pub counters : next tree.counters ≡ counted_to seq (db tree.counters)
  pub nodes : next tree.nodes ≡ db tree.nodes
  pub bodies : next tree.bodies ≡ db tree.bodies
  pub members : next tree.members ≡ db tree.members
  pub meta : next tree.meta ≡ db tree.meta
  pub audits : next tree.audits ≡ db tree.audits ++ stored_record seq values ∷ []
