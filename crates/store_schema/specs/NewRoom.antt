-- The room that is made.
use Rattle.std.specs.Prelude.{◌≡◌, ℤ, pos, Bool, true, false, List, [], ◌∷◌, Option, Some, None}
use Rattle.std.specs.Prelude.{filter, map, codes}
use Rattle.std.specs.Ordering.{is_eq}
use Rattle.room_entry.specs.Ace.{Ace}
use Rattle.room_entry.specs.Bits.{all_bits}
use Rattle.room_entry.specs.declared.entry.EntryKind.TheVariants.{Allow}
use Rattle.room_entry.specs.declared.entry.Who.TheVariants.{Owner}
use Rattle.room_entry.specs.declared.object.ObjKind.TheVariants.{Folder}
use Rattle.room_entry.specs.declared.parties.Owners.{Owners}
use Rattle.room_rows.specs.Sound.{AreSound}
use Rattle.room_rows.specs.HeldList.{Held}
use Rattle.room_rows.specs.declared.node.Node.{Node}
use Rattle.room_rows.specs.Rows.{Rows}
use Rattle.sqlite.specs.declared.types.Value.{Value}
use Rattle.sqlite.specs.declared.types.Value.TheVariants.{Int, Text}
use Rattle.sqlite.specs.Order.{Row, column, value_cmp}
use Rattle.sqlite.specs.Effect.{Database}
use Rattle.store_tables.specs.Meaning.{rows_of}
use Rattle.store_tables.specs.Printed.{ArePrinted}
use Rattle.store_tables.specs.Shown.{IsRoom}
use Rattle.store_tables.specs.Trees as tree
use Rattle.store_tables.specs.MetaCells as meta_cell

-- ---- the schema's number

abbrev pub is_version : Row → Bool
is_version r = is_eq (value_cmp (column r meta_cell.key) (Text (codes "rooms")))

abbrev pub whole_in : Value → Option ℤ
whole_in (Int n) = Some n
whole_in _ = None

-- the number in the only row
abbrev pub number_shown : List Row → Option ℤ
number_shown (r ∷ []) = whole_in (column r 0)
number_shown _ = None

-- the whole number that `meta` has under the key `rooms`
abbrev pub meta_of : Database → Option ℤ
meta_of db = number_shown (map (λ r. column r meta_cell.value ∷ [])
    (filter is_version (db.trees tree.meta)))

-- ---- a new room

-- A:fd:OWNER@:rwanNxDtThHdcCoy
abbrev pub owner_entry : Ace
owner_entry = record {
  kind = Allow;
  flags = record {
    file_inherit = true;
    directory_inherit = true;
    no_propagate_inherit = false;
    inherit_only = false;
    successful_access = false;
    failed_access = false;
    identifier_group = false;
    inherited = false;
  };
  who = Owner;
  mask = all_bits;
}

-- a list with the flag `a` and these entries of its own
abbrev pub new_list : List Ace → Held
new_list own = record { flags = record { auto = true; protect = false }; own = own; inh = [] }

abbrev pub new_root : Owners → Node
new_root owners = record {
  id = 1;
  parent = None;
  name = [];
  kind = Folder;
  owners = owners;
  dacl = new_list (owner_entry ∷ []);
  sacl = new_list [];
}

-- the root alone
abbrev pub rows_of_root : Owners → Rows
rows_of_root owners = record {
  read = record { nodes = new_root owners ∷ []; bodies = []; members = []; audits = [] };
  unreadable = [];
}

-- It is sound, whoever owns it.
abbrev pub NewRoomIsSound : Type 0
NewRoomIsSound = (owners : Owners) → AreSound (rows_of_root owners)

-- the only row of `meta`
abbrev pub version_row : Row
version_row = Int (pos 1) ∷ Text (codes "rooms") ∷ Int (pos 2) ∷ []

-- The tables have the root and the schema's number, and nothing else. No record was counted yet.
pub record IsNewRoom (owners : Owners) (db : Database) : Type 0 where
  pub room : IsRoom db
  pub version : meta_of db ≡ Some (pos 2)
  pub meta : db.trees tree.meta ≡ version_row ∷ []
  pub counters : db.trees tree.counters ≡ []
  pub rows : rows_of db ≡ rows_of_root owners
  pub texts : ArePrinted (db.trees tree.nodes)
