-- What a change that is served leaves of the rows, sound or not.
use Rattle.std.specs.Prelude.{◌≡◌, ℕ, ◌<◌, ◌==◌, ◌⊎◌, ◌&&◌, false, not, List, [], ◌++◌}
use Rattle.std.specs.Prelude.{Option, Some, None, unwrap_or, if◌then◌else◌, IsTrue}
use Rattle.std.specs.Option.{option_map_or}
use Rattle.room_entry.specs.Ace.{Ace}
use Rattle.room_ace.specs.Sent.{Sent, inherited_of, own_of}
use Rattle.room_entry.specs.declared.flags.ListFlags.{ListFlags}
use Rattle.room_entry.specs.declared.object.ObjKind.{ObjKind}
use Rattle.room_entry.specs.declared.object.ObjKind.TheVariants.{Document, Folder}
use Rattle.room_entry.specs.declared.object.Which.{Which}
use Rattle.room_entry.specs.declared.object.Which.TheVariants.{Dacl, Sacl}
use Rattle.room_entry.specs.declared.parties.Caller.{Caller}
use Rattle.room_entry.specs.declared.parties.Owners.{Owners}
use Rattle.room_rows.specs.HeldList.{Held}
use Rattle.room_rows.specs.declared.node.NewNode.{NewNode}
use Rattle.room_rows.specs.declared.node.Node.{Node}
use Rattle.room_rows.specs.Content.{Content, body_of, has_parent, is_linked_in, node_at, parent_of}
use Rattle.room_rows.specs.Content.{with_body, with_each, with_node, without_node}
use Rattle.room_rows.specs.Held.{full_of, held_of, is_linked, with_held}
use Rattle.room_rows.specs.Keep.{Addition, with_bytes, with_inh, with_new, with_owners, with_place}
use Rattle.room_rows.specs.Law.{agrees}
use Rattle.room_rows.specs.Pass.{pass}
use Rattle.room_rows.specs.Rows.{Rows, is_unreadable}
use Rattle.room_machine.specs.declared.request.Request.{Request}
use Rattle.room_machine.specs.declared.request.Request.TheVariants.{Read, List as ListFolder, Put}
use Rattle.room_machine.specs.declared.request.Request.TheVariants.{Append, MakeFolder, Remove}
use Rattle.room_machine.specs.declared.request.Request.TheVariants.{Move, ReadList, SetList}
use Rattle.room_machine.specs.declared.request.Request.TheVariants.{ReadAttr, SetOwners, Can}
use Rattle.room_machine.specs.Site.{front, last_name}
use Rattle.room_machine.specs.Stored.{AtFree, AtStored}

-- ---- a new object, as it is stored

-- It stores what its parent passes, whether it is linked or not.
abbrev pub passed_held : ObjKind → Held → Held
passed_held kind parent = record {
  flags = record { auto = parent.flags.auto; protect = false };
  own = [];
  inh = pass kind (full_of parent);
}

-- owned by the caller, or as the parent is where the caller has no name
abbrev pub owners_under : Option (List ℕ) → Owners → Owners
owners_under user parent = record { owner = unwrap_or user parent.owner; group = parent.group }

abbrev pub child_node : Caller → ObjKind → Node → List ℕ → NewNode
child_node caller kind parent name = record {
  parent = Some parent.id;
  name = name;
  kind = kind;
  owners = owners_under caller.user parent.owners;
  dacl = passed_held kind parent.dacl;
  sacl = passed_held kind parent.sacl;
}

-- the same with its bytes
abbrev pub new_child : Caller → ObjKind → Node → List ℕ → List ℕ → Addition
new_child caller kind parent name bytes = with_bytes (child_node caller kind parent name) bytes

-- The object is added with a number that no row has, and nothing else is changed.
abbrev pub AddsNew : Addition → Rows → Content → Type 0
AddsNew node rows next = (id : ℕ) × (0 < id) × (node_at rows.read id ≡ None)
    × (is_unreadable rows id ≡ false) × (next ≡ with_new rows.read id node)

-- ---- a list that is handed down

-- An object is linked below this one: its list is linked to its parent's, and the parent is this
-- one, or is linked below it.
pub data IsLinkedUnder (rows : Content) (which : Which) (id : ℕ) : Node → Type 0 where
  Child : (node : Node) → IsTrue (is_linked_in rows which node) → IsTrue (has_parent id node)
      → IsLinkedUnder rows which id node
  Further : (node above : Node) → IsTrue (is_linked_in rows which node)
      → parent_of rows node ≡ Some above → IsLinkedUnder rows which id above
      → IsLinkedUnder rows which id node

-- Each object stores the inherited entries that it stored; or it is linked below this one, and
-- stores what its parent's stored list passes. Nothing else is changed.
pub record HandsDown (which : Which) (id : ℕ) (old new : Content) : Type 0 where
  pub lists : Node → List Ace
  pub becomes : new ≡ with_each old (λ node. with_inh which (lists node) node)
  pub each : (node : Node) → node_at old node.id ≡ Some node
      → (lists node ≡ (held_of which node).inh)
      ⊎ (IsLinkedUnder old which id node
      × IsTrue (agrees new which (with_inh which (lists node) node)))

-- ---- a list that is set

-- the parent, where a list of these flags takes entries from it
abbrev pub passing_parent : Which → ListFlags → Option Node → Option Node
passing_parent which flags None = None
passing_parent which flags (Some above) = if not flags.protect && (held_of which above).flags.auto
    then Some above else None

abbrev pub stored_inh : Which → Sent → ObjKind → Option Node → List Ace
stored_inh which sent kind parent = option_map_or
    (λ above. pass kind (full_of (held_of which above))) parent (inherited_of sent.entries)

-- The sent flags and own entries. A linked list inherits what the parent's stored list passes, and
-- any other the sent entries with INHERITED.
abbrev pub stored_held : Which → Sent → ObjKind → Option Node → Held
stored_held which sent kind parent = record {
  flags = sent.flags;
  own = own_of sent.entries;
  inh = stored_inh which sent kind (passing_parent which sent.flags parent);
}

-- The object stores the list that is sent, and hands it down.
abbrev pub SetsList : Content → Which → Sent → Node → Content → Type 0
SetsList rows which sent node next =
    let held = stored_held which sent node.kind (parent_of rows node) in
    HandsDown which node.id (with_node rows (with_held which held node)) next

-- ---- a move

-- What an object stores in a folder: a linked list inherits what the folder's stored list passes,
-- and any other what it did.
abbrev pub inh_in : Which → Node → Node → List Ace
inh_in which folder node = let held = held_of which node in
    if is_linked held (Some (held_of which folder))
    then pass node.kind (full_of (held_of which folder)) else held.inh

-- the content with the object of this number changed
abbrev pub with_one : ℕ → (Node → Node) → Content → Content
with_one id change content =
    with_each content (λ node. if node.id == id then change node else node)

-- One list of the object that came into a folder is stored, and handed down.
abbrev pub Relinks : Which → Node → Node → Content → Content → Type 0
Relinks which folder node old new =
    HandsDown which node.id (with_one node.id (with_inh which (inh_in which folder node)) old) new

-- The object stands in the folder by this name, with each of its lists as it is stored there.
abbrev pub MovesTo : Node → List ℕ → Node → Content → Content → Type 0
MovesTo folder name node rows next =
    (mid : Content) × Relinks Dacl folder node (with_node rows (with_place folder.id name node)) mid
    × Relinks Sacl folder node mid next

-- ---- all requests

-- What the content becomes where a request is served, but for the records. Rows that can't be read
-- stay as they are.
abbrev pub IsChanged : Rows → Caller → Request → Content → Type 0
IsChanged rows caller (Read path) next = next ≡ rows.read
IsChanged rows caller (ListFolder path) next = next ≡ rows.read
IsChanged rows caller (ReadList path which) next = next ≡ rows.read
IsChanged rows caller (ReadAttr path) next = next ≡ rows.read
IsChanged rows caller (Can path mask) next = next ≡ rows.read
IsChanged rows caller (Put path bytes) next =
    AtStored rows.read path (λ target. next ≡ with_body rows.read target.node.id bytes)
    ⊎ AtFree rows.read path (λ folder.
    AddsNew (new_child caller Document folder.node (last_name path) bytes) rows next)
IsChanged rows caller (Append path bytes) next = AtStored rows.read path (λ target.
    (before : List ℕ) × (body_of rows.read target.node.id ≡ Some before)
    × (next ≡ with_body rows.read target.node.id (before ++ bytes)))
IsChanged rows caller (MakeFolder path) next = AtFree rows.read path (λ folder.
    AddsNew (new_child caller Folder folder.node (last_name path) []) rows next)
IsChanged rows caller (Remove path) next = AtStored rows.read path (λ target.
    next ≡ without_node rows.read target.node.id)
IsChanged rows caller (Move path to) next = AtStored rows.read path (λ target.
    AtStored rows.read (front to) (λ folder.
    MovesTo folder.node (last_name to) target.node rows.read next))
IsChanged rows caller (SetList path which sent) next = AtStored rows.read path (λ target.
    SetsList rows.read which sent target.node next)
IsChanged rows caller (SetOwners path owners) next = AtStored rows.read path (λ target.
    next ≡ with_node rows.read (with_owners owners target.node))
