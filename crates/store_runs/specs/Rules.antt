-- What a database that obeys its schema is, for the tables of a room: what `IsDatabase` says of their
-- rows, in plain words (own).
use Rattle.std.specs.Prelude.{◌≡◌, ◌⊎◌, ℕ, ◌+◌, true, false, List, [], ◌∷◌, Some, slice_get}
use Rattle.sqlite_rules.specs.Lists.{Has}
use Rattle.sqlite.specs.Effect.{Database, IsDatabase}
use Rattle.sqlite.specs.Kind.{Kind}
use Rattle.sqlite.specs.Kind.TheVariants as kind
use Rattle.sqlite.specs.Order.{Row, column}
use Rattle.sqlite.specs.Table.{Table}
use Rattle.sqlite.specs.Tree.{Trees, rowid}
use Rattle.sqlite.specs.declared.types.Value.{Value}
use Rattle.sqlite.specs.declared.types.Value.TheVariants.{Null, Int, Real, Text, Blob}
use Rattle.sqlite_schema.specs.declared.schema.Column.{Column}
use Rattle.sqlite_schema.specs.Names.{is_key}
use Rattle.sqlite_schema.specs.Rules.{differ, equal}
use Rattle.sqlite_value.specs.declared.keys.Collation.TheVariants.{Binary}
use Rattle.store_tables.specs.Tables as table
use Rattle.store_tables.specs.Trees as tree
use Rattle.store_tables.specs.NodeCells as node
use Rattle.store_tables.specs.PairCells as pair
use Rattle.store_tables.specs.MetaCells as entry

-- a whole number, a real one, a text or bytes, as the column asks
abbrev pub IsOfKind : Kind → Value → Type 0
IsOfKind kind.Any v = Unit {0}
IsOfKind kind.Integer (Int number) = Unit {0}
IsOfKind kind.Real (Real number) = Unit {0}
IsOfKind kind.Text (Text text) = Unit {0}
IsOfKind kind.Blob (Blob bytes) = Unit {0}
IsOfKind kind v = ⊥

-- the cell is so, or it is NULL where the column may be
abbrev pub IsCellOf : Column → Value → Type 0
IsCellOf column v = IsOfKind column.kind v ⊎ ((v ≡ Null) × (column.not_null ≡ false))

-- Each row has such a cell for each column of the table, but for the one of the row's number.
abbrev pub HasCellsOf : Table → List Row → Type 0
HasCellsOf table rows = (row : Row) → Has rows row → (at : ℕ) (c : Column)
    → slice_get table.columns at ≡ Some c → is_key table.key at ≡ false
    → IsCellOf c (column row (at + 1))

-- a row of nodes has this number, or it is NULL
abbrev pub IsNumbered : Trees → Value → Type 0
IsNumbered db v = (v ≡ Null)
    ⊎ ((row : Row) × Has (db tree.nodes) row × (equal Binary (rowid row) v ≡ true))

-- the two rows have equal cells at these places, none of them NULL
abbrev pub AreEqualAt : List ℕ → Row → Row → Type 0
AreEqualAt [] a b = Unit {0}
AreEqualAt (place ∷ places) a b =
    (equal Binary (column a place) (column b place) ≡ true) × AreEqualAt places a b

-- no two rows of different numbers have equal cells at these places
abbrev pub AreApartAt : List ℕ → List Row → Type 0
AreApartAt places rows = (a b : Row) → Has rows a → Has rows b → AreEqualAt places a b
    → differ (rowid a) (rowid b) ≡ false

-- In each table the cells are of the kinds of their columns. The parent of an object, and the object
-- of bytes, is one that is there. No two objects have one parent and one name; no pair and no key
-- stands twice.
pub record KeepsRules (db : Trees) : Type 0 where
  pub nodes : HasCellsOf table.nodes (db tree.nodes)
  pub bodies : HasCellsOf table.bodies (db tree.bodies)
  pub members : HasCellsOf table.members (db tree.members)
  pub meta : HasCellsOf table.meta (db tree.meta)
  pub audits : HasCellsOf table.audits (db tree.audits)
  pub parents :
      (row : Row) → Has (db tree.nodes) row → IsNumbered db (column row node.parent)
  pub bytes : (row : Row) → Has (db tree.bodies) row → IsNumbered db (rowid row)
  pub names : AreApartAt (node.parent ∷ node.name ∷ []) (db tree.nodes)
  pub pairs : AreApartAt (pair.user ∷ pair.group ∷ []) (db tree.members)
  pub keys : AreApartAt (entry.key ∷ []) (db tree.meta)

abbrev pub TablesKeepRules : Type 0
TablesKeepRules = (db : Database) → db.schema ≡ table.room_schema → IsDatabase db
    → KeepsRules db.trees
