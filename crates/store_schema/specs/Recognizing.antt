-- What the tables of a room have beside their names and columns (own).
use Rattle.std.specs.Prelude.{◌≡◌, ℕ, ◌+◌, List, [], ◌∷◌, drop, false, true, codes}
use Rattle.sqlite.specs.Collation.TheVariants.{Binary}
use Rattle.sqlite.specs.declared.types.Value.TheVariants.{Null}
use Rattle.sqlite.specs.Table.{Table}
use Rattle.sqlite.specs.Kind.TheVariants.{Any}
use Rattle.sqlite_schema.specs.declared.schema.Column.{Column}
use Rattle.sqlite_schema.specs.declared.schema.Action.{Action}
use Rattle.sqlite_schema.specs.declared.schema.Reference.{Reference}
use Rattle.sqlite_schema.specs.declared.schema.Index.{Index}
use Rattle.sqlite_value.specs.Keys.{plain}
use Rattle.store_tables.specs.Tables.{audits, nodes}

-- a column without a type
abbrev pub loose_column : List ℕ → Column
loose_column name = record {
  name = name;
  kind = Any;
  is_strict = false;
  not_null = false;
  default = Null;
  collation = Binary;
}

-- no rule that rows are tested by, and no default that is computed
abbrev pub HasNoMore : Table → Type 0
HasNoMore table = (table.checks ≡ []) × (table.computed ≡ [])
    × (table.stamps ≡ record { places = []; terms = []; formats = [] })

-- the columns of an object from its owner on
abbrev pub owner_columns : List Column
owner_columns = drop 4 nodes.columns

-- those of the texts of its lists
abbrev pub list_columns : List Column
list_columns = drop 8 nodes.columns

-- the columns of a record from its mask on
abbrev pub ruling_columns : List Column
ruling_columns = drop 4 audits.columns

-- a foreign key of one column to the objects, which is tested at once
abbrev pub to_nodes : ℕ → Action → Action → Reference
to_nodes place on_delete on_update = record {
  columns = place ∷ [];
  parent = codes "nodes";
  parent_columns = [];
  on_delete = on_delete;
  on_update = on_update;
  is_deferred = false;
}

-- the index that the only key of a table makes
abbrev pub automatic_of : ℕ → List ℕ → List ℕ → Index
automatic_of table name places = record {
  name = name;
  tree = table + 1;
  table = table;
  columns = places;
  order = plain;
  is_unique = true;
}

-- the indexes of the keys of objects, pairs and settings
abbrev pub key_indexes : List Index
key_indexes = automatic_of 0 (codes "sqlite_autoindex_nodes_1") (2 ∷ 3 ∷ [])
    ∷ automatic_of 3 (codes "sqlite_autoindex_members_1") (2 ∷ 1 ∷ [])
    ∷ automatic_of 5 (codes "sqlite_autoindex_meta_1") (1 ∷ []) ∷ []
