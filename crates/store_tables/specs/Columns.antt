-- What is stored of the columns of an object.
use Rattle.std.specs.Prelude.{◌≡◌, ◌⊎◌, ◌<◌, ℕ, pos, Some, ℤ, [], ◌∷◌, if◌then◌else◌, string_bytes}
use Rattle.sqlite.specs.declared.types.Value.{Value}
use Rattle.sqlite.specs.declared.types.Value.TheVariants.{Null, Int, Text}
use Rattle.sqlite.specs.Order.{Row}
use Rattle.room_rows.specs.HeldList.{Held}
use Rattle.room_rows.specs.declared.node.AuditRow.{AuditRow}
use Rattle.room_rows.specs.declared.node.Node.{Node}
use Rattle.store_tables.specs.declared.columns.Columns.{Columns}
use Rattle.store_tables.specs.declared.columns.HeldColumns.{HeldColumns}
use Rattle.store_tables.specs.declared.columns.Record.{Record}
use Rattle.sqlite.specs.Effect.{Database}
use Rattle.store_tables.specs.Printed.{IsPrinted}
use Rattle.store_tables.specs.Shown.{AddsRow}
use Rattle.store_tables.specs.Meaning.{parent_in, text_in, kind_in, name_in, flags_in}
use Rattle.store_tables.specs.Meaning.{mask_in, path_in, place_in, user_in}

abbrev pub values_of : Columns → Row
values_of c = c.parent ∷ Text (string_bytes c.name) ∷ Int c.kind ∷ Text (string_bytes c.owner)
    ∷ Text (string_bytes c.group) ∷ Int c.dacl_flags ∷ Int c.sacl_flags
    ∷ Text (string_bytes c.dacl_own) ∷ Text (string_bytes c.dacl_inh)
    ∷ Text (string_bytes c.sacl_own) ∷ Text (string_bytes c.sacl_inh) ∷ []

-- NULL or an integer
abbrev pub IsParent : Value → Type 0
IsParent v = (v ≡ Null) ⊎ ((n : ℤ) × (v ≡ Int n))

-- what is read of the columns is the object, and its lists are printed in them
pub record ReadsAsNode (n : Node) (c : Columns) : Type 0 where
  pub is_parent : IsParent c.parent
  pub parent : parent_in c.parent ≡ Some n.parent
  pub name : text_in (Text (string_bytes c.name)) ≡ Some n.name
  pub kind : kind_in (Int c.kind) ≡ Some n.kind
  pub owner : name_in (Text (string_bytes c.owner)) ≡ Some n.owners.owner
  pub group : name_in (Text (string_bytes c.group)) ≡ Some n.owners.group
  pub dacl_flags : flags_in (Int c.dacl_flags) ≡ Some n.dacl.flags
  pub sacl_flags : flags_in (Int c.sacl_flags) ≡ Some n.sacl.flags
  pub dacl_own : IsPrinted n.dacl.own (string_bytes c.dacl_own)
  pub dacl_inh : IsPrinted n.dacl.inh (string_bytes c.dacl_inh)
  pub sacl_own : IsPrinted n.sacl.own (string_bytes c.sacl_own)
  pub sacl_inh : IsPrinted n.sacl.inh (string_bytes c.sacl_inh)

-- what is read of the columns is the list, which is printed in them
pub record ReadsAsHeld (h : Held) (c : HeldColumns) : Type 0 where
  pub flags : flags_in (Int c.flags) ≡ Some h.flags
  pub own : IsPrinted h.own (string_bytes c.own)
  pub inh : IsPrinted h.inh (string_bytes c.inh)

-- the columns of some object
abbrev pub StoresNode : Columns → Type 0
StoresNode c = (node : Node) × ReadsAsNode node c

-- those of some list
abbrev pub StoresHeld : HeldColumns → Type 0
StoresHeld c = (held : Held) × ReadsAsHeld held c

-- an object is stored in columns that are put in with this number
pub record IsInserted (node : Node) (id : ℕ) (old new : Database) : Type 0 where
  pub columns : Columns
  pub stores : ReadsAsNode node columns
  pub adds : AddsRow (pos id) (values_of columns) old.trees new.trees
  pub from_one : 0 < id

abbrev pub record_values : Record → Row
record_values r = Int r.at ∷ Text (string_bytes r.user) ∷ Text (string_bytes r.path)
    ∷ Int (pos r.bits) ∷ Int (if r.granted then pos 1 else pos 0) ∷ Int r.entry ∷ []

-- what is read of the columns is the record
pub record Recalls (a : AuditRow) (r : Record) : Type 0 where
  pub at : r.at ≡ a.at
  pub user : user_in (Text (string_bytes r.user)) ≡ Some a.user
  pub path : path_in (Text (string_bytes r.path)) ≡ Some a.path
  pub bits : mask_in (Int (pos r.bits)) ≡ Some a.bits
  pub granted : r.granted ≡ a.granted
  pub entry : place_in (Int r.entry) ≡ Some (a.place, a.kind)

-- the columns of some record
abbrev pub StoresRecord : Record → Type 0
StoresRecord r = (a : AuditRow) × Recalls a r
