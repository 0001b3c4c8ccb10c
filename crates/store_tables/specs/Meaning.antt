-- What the rows of the tables mean.
use Rattle.std.specs.Prelude.{ℕ, zero, suc, ℤ, pos, negsuc, ◌+◌, ◌||◌, ◌++◌, Bool, true, false}
use Rattle.std.specs.Prelude.{List, [], ◌∷◌, Option, Some, None, Result, Ok, Err, option_map}
use Rattle.std.specs.Prelude.{option_and_then, IsSome, is_none, nat_lt, if◌then◌else◌, map}
use Rattle.std.specs.List.{filter_map}
use Rattle.room_entry.specs.Ace.{Ace}
use Rattle.room_ace.specs.Column.{entries_of}
use Rattle.room_entry.specs.Bits.{bits_of, number_of}
use Rattle.room_entry.specs.Names.{is_name}
use Rattle.room_entry.specs.Utf8.{is_utf8}
use Rattle.room_entry.specs.declared.flags.ListFlags.{ListFlags}
use Rattle.room_entry.specs.declared.object.ObjKind.{ObjKind}
use Rattle.room_entry.specs.declared.object.ObjKind.TheVariants.{Document, Folder}
use Rattle.room_entry.specs.declared.parties.Owners.{Owners}
use Rattle.room_rows.specs.HeldList.{Held}
use Rattle.room_rows.specs.declared.node.Node.{Node}
use Rattle.room_rows.specs.declared.node.AuditRow.{AuditRow}
use Rattle.room_rows.specs.declared.node.RecordKind.TheVariants.{Audit, Alarm}
use Rattle.room_rows.specs.Content.{set_of}
use Rattle.room_rows.specs.Paths.{path_of}
use Rattle.room_rows.specs.Rows.{Rows, Stored, Nothing, Whole, Fraction, Bytes, Unread}
use Rattle.sqlite.specs.declared.types.Value.{Value}
use Rattle.sqlite.specs.declared.types.Value.TheVariants.{Null, Int, Real, Text, Blob}
use Rattle.sqlite.specs.Order.{Row, column}
use Rattle.sqlite.specs.Effect.{Database}
use Rattle.store_tables.specs.Trees as tree
use Rattle.store_tables.specs.NodeCells as cell
use Rattle.store_tables.specs.BodyCells as body
use Rattle.store_tables.specs.PairCells as pair
use Rattle.store_tables.specs.RecordCells as record_cell

-- ---- one value

-- the number of an object, from 1 on
abbrev pub number_in : Value → Option ℕ
number_in (Int (pos n)) = if nat_lt 0 n then Some n else None
number_in _ = None

abbrev pub parent_in : Value → Option (Option ℕ)
parent_in Null = Some None
parent_in value = option_map Some (number_in value)

abbrev pub kind_in : Value → Option ObjKind
kind_in (Int (pos zero)) = Some Document
kind_in (Int (pos (suc zero))) = Some Folder
kind_in _ = None

abbrev pub flags_in : Value → Option ListFlags
flags_in (Int (pos zero)) = Some (record { auto = false; protect = false })
flags_in (Int (pos (suc zero))) = Some (record { auto = true; protect = false })
flags_in (Int (pos (suc (suc zero)))) = Some (record { auto = false; protect = true })
flags_in (Int (pos (suc (suc (suc zero))))) = Some (record { auto = true; protect = true })
flags_in _ = None

-- a text, which has to be UTF-8
abbrev pub text_in : Value → Option (List ℕ)
text_in (Text text) = if is_utf8 text then Some text else None
text_in _ = None

abbrev pub name_of_text : List ℕ → Option (List ℕ)
name_of_text text = if is_name text then Some text else None

abbrev pub name_in : Value → Option (List ℕ)
name_in value = option_and_then name_of_text (text_in value)

-- ---- a list column

abbrev pub entries_in : Value → Option (List Ace)
entries_in (Text text) = entries_of text
entries_in _ = None

-- ---- a row of nodes, as it is shown

-- all its columns, and its number first
abbrev pub shown_node : Row → Row
shown_node r = column r cell.number ∷ column r cell.parent ∷ column r cell.name
    ∷ column r cell.kind ∷ column r cell.owner ∷ column r cell.group
    ∷ column r cell.dacl_flags ∷ column r cell.sacl_flags ∷ column r cell.dacl_own
    ∷ column r cell.dacl_inh ∷ column r cell.sacl_own ∷ column r cell.sacl_inh ∷ []

-- its number, name and kind
abbrev pub shown_name : Row → Row
shown_name r = column r cell.number ∷ column r cell.name ∷ column r cell.kind ∷ []

-- what is read goes on to the next, and to the last
abbrev pub given : {A B : Type 0} → Option A → (A → Option B) → Option B
given value next = option_and_then next value

abbrev pub given_last : {A B : Type 0} → Option A → (A → B) → Option B
given_last value last = option_map last value

abbrev pub held_in : Value → Value → Value → Option Held
held_in flags own inh =
    given (flags_in flags) (λ f.
    given (entries_in own) (λ o.
    given_last (entries_in inh) (λ i.
    let h : Held = record { flags = f; own = o; inh = i } in h)))

abbrev pub owners_in : Value → Value → Option Owners
owners_in owner group =
    given (name_in owner) (λ o.
    given_last (name_in group) (λ g.
    let w : Owners = record { owner = o; group = g } in w))

abbrev pub node_in : Row → Option Node
node_in r =
    given (number_in (column r 0)) (λ id.
    given (parent_in (column r 1)) (λ parent.
    given (text_in (column r 2)) (λ name.
    given (kind_in (column r 3)) (λ kind.
    given (owners_in (column r 4) (column r 5)) (λ owners.
    given (held_in (column r 6) (column r 8) (column r 9)) (λ dacl.
    given_last (held_in (column r 7) (column r 10) (column r 11)) (λ sacl.
    let n : Node = record {
      id = id;
      parent = parent;
      name = name;
      kind = kind;
      owners = owners;
      dacl = dacl;
      sacl = sacl;
    } in n)))))))

-- a number, a name and a kind, as they are shown
abbrev pub named_in : Row → Option (List ℕ × ObjKind)
named_in r =
    given (kind_in (column r 2)) (λ kind.
    given_last (text_in (column r 1)) (λ name. (name, kind)))

-- ---- a row of nodes that can't be read

abbrev pub stored_in : Value → Stored
stored_in Null = Nothing
stored_in (Int n) = Whole n
stored_in (Real x) = Fraction x
stored_in (Text text) = Stored.Text text
stored_in (Blob bytes) = Bytes bytes

-- a number as it is stored, which may be 0
abbrev pub whole_in : Value → Option ℕ
whole_in (Int (pos n)) = Some n
whole_in _ = None

-- what is stored of the row of this number
abbrev pub unread_with : Row → ℕ → Unread
unread_with r id = record {
  id = id;
  parent = whole_in (column (shown_node r) 1);
  named = named_in (shown_name r);
  values = map stored_in r;
}

-- the row, if it has a number and can't be read as an object
abbrev pub unread_in : Row → Option Unread
unread_in r =
    if is_none (node_in (shown_node r))
    then option_map (unread_with r) (number_in (column (shown_node r) 0))
    else None

-- ---- the other tables, as their rows are stored

abbrev pub bytes_in : Value → Option (List ℕ)
bytes_in (Blob bytes) = Some bytes
bytes_in _ = None

abbrev pub body_row : Option ℕ → Value → Option (ℕ × List ℕ)
body_row (Some id) (Blob bytes) = Some (id, bytes)
body_row _ _ = None

abbrev pub body_in : Row → Option (ℕ × List ℕ)
body_in r = body_row (number_in (column r body.number)) (column r body.bytes)

abbrev pub pair_in : Row → Option (List ℕ × List ℕ)
pair_in r = option_and_then
    (λ group. option_map (λ user. (group, user)) (name_in (column r pair.user)))
    (name_in (column r pair.group))

-- ---- all of them

abbrev pub nodes_of : List Row → List Node
nodes_of rows = filter_map (λ r. node_in (shown_node r)) rows

abbrev pub unread_of : List Row → List Unread
unread_of rows = filter_map unread_in rows

abbrev pub bodies_of : List Row → List (ℕ × List ℕ)
bodies_of rows = filter_map body_in rows

abbrev pub pairs_of : List Row → List (List ℕ × List ℕ)
pairs_of rows = set_of (filter_map pair_in rows)

-- a name, or the empty text of an anonymous caller
abbrev pub user_in : Value → Option (Option (List ℕ))
user_in (Text []) = Some None
user_in value = option_map Some (name_in value)

-- a mask has known bits only
abbrev pub mask_in : Value → Option (List ℕ)
mask_in (Int (pos n)) = if Rattle.std.specs.Prelude.nat_eq (number_of (bits_of n)) n then Some
    (bits_of n) else None
mask_in _ = None

abbrev pub is_ok : {A F : Type 0} → Result A F → Bool
is_ok (Ok value) = true
is_ok (Err fault) = false

-- the text of a path
abbrev pub path_in : Value → Option (List ℕ)
path_in (Text text) = if is_ok (path_of text) then Some text else None
path_in _ = None

abbrev pub granted_in : Value → Option Bool
granted_in (Int (pos zero)) = Some false
granted_in (Int (pos (suc zero))) = Some true
granted_in _ = None

abbrev pub moment_in : Value → Option ℤ
moment_in (Int moment) = Some moment
moment_in _ = None

-- the place of an audit record, and minus the place of an alarm record
abbrev pub place_in : Value
    → Option (ℕ × Rattle.room_rows.specs.declared.node.RecordKind.RecordKind)
place_in (Int (pos (suc n))) = Some (suc n, Audit)
place_in (Int (negsuc n)) = Some (suc n, Alarm)
place_in _ = None

abbrev pub audit_in : Row → Option AuditRow
audit_in r =
    given (moment_in (column r record_cell.at)) (λ moment.
    given (user_in (column r record_cell.user)) (λ user.
    given (path_in (column r record_cell.path)) (λ path.
    given (mask_in (column r record_cell.bits)) (λ bits.
    given (granted_in (column r record_cell.granted)) (λ granted.
    given_last (place_in (column r record_cell.place)) (λ place.
    let a : AuditRow = record {
      at = moment;
      user = user;
      path = path;
      bits = bits;
      granted = granted;
      place = place.0;
      kind = place.1;
    } in a))))))

-- the row can be read as a record
abbrev pub IsRecord : Row → Type 0
IsRecord r = IsSome (audit_in r)

abbrev pub rows_of : Database → Rows
rows_of db = record {
  read = record {
    nodes = nodes_of (db.trees tree.nodes);
    bodies = bodies_of (db.trees tree.bodies);
    members = pairs_of (db.trees tree.members);
    audits = filter_map audit_in (db.trees tree.audits);
  };
  unreadable = unread_of (db.trees tree.nodes);
}
