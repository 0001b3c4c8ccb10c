-- The reply to a request whose plan passes, and the change that it makes (own; which lists are
-- linked: RFC 8881, section 6.4.3).
use Rattle.std.specs.Prelude.{ℕ, ◌&&◌, Bool, false, not, List, [], ◌∷◌, ◌++◌, map, Option, Some}
use Rattle.std.specs.Prelude.{None, unwrap_or, if◌then◌else◌}
use Rattle.std.specs.Option.{option_map, option_map_or}
use Rattle.room_entry.specs.Ace.{Ace}
use Rattle.room_ace.specs.Sent.{own_of, inherited_of, Sent}
use Rattle.room_entry.specs.declared.object.ObjKind.{ObjKind}
use Rattle.room_entry.specs.declared.object.ObjKind.TheVariants.{Document, Folder}
use Rattle.room_entry.specs.declared.object.Which.{Which}
use Rattle.room_entry.specs.declared.object.Which.TheVariants.{Dacl, Sacl}
use Rattle.room_entry.specs.declared.parties.Caller.{Caller}
use Rattle.room_entry.specs.declared.parties.Owners.{Owners}
use Rattle.room_eval.specs.Verdict.{ruling_of}
use Rattle.room_eval.specs.declared.outcome.Ruling.{Ruling}
use Rattle.room_rows.specs.HeldList.{Held}
use Rattle.room_rows.specs.declared.node.Node.{Node}
use Rattle.room_rows.specs.Held.{held_of, with_held, is_linked}
use Rattle.room_rows.specs.Content.{Content, has_parent, children_of, body_of, with_node, with_body}
use Rattle.room_rows.specs.Content.{with_each, without_node}
use Rattle.room_rows.specs.Pass.{pass}
use Rattle.room_machine.specs.declared.request.Request.{Request}
use Rattle.room_machine.specs.declared.request.Request.TheVariants.{Read, List as ListFolder, Put}
use Rattle.room_machine.specs.declared.request.Request.TheVariants.{Append, MakeFolder, Remove}
use Rattle.room_machine.specs.declared.request.Request.TheVariants.{Move, ReadList, SetList}
use Rattle.room_machine.specs.declared.request.Request.TheVariants.{ReadAttr, SetOwners, Can}
use Rattle.room_machine.specs.declared.reply.Reply.{Reply}
use Rattle.room_machine.specs.declared.reply.Reply.TheVariants.{Bytes, Names, Lists, Attr, Rulings}
use Rattle.room_machine.specs.declared.reply.Reply.TheVariants.{Made, Done}
use Rattle.room_machine.specs.Site.{Site, inherited_at, full_at, sites_along, site_at, parent_at}
use Rattle.room_machine.specs.Site.{front, last_name}

-- ---- a new object

-- It has no own entries and isn't protected. Its flag AUTO_INHERIT is the parent's, and where that
-- isn't set, it keeps what the parent passes.
abbrev pub new_held : Which → ObjKind → Site → Held
new_held which kind folder = let auto = (held_of which folder.node).flags.auto in
    record {
      flags = record { auto = auto; protect = false };
      own = [];
      inh = if auto then [] else pass kind (full_at which folder);
    }

-- Its owner is the caller, or the parent's owner where the caller has no name, and its group is the
-- parent's.
abbrev pub new_owners : Caller → Site → Owners
new_owners caller folder = let above = folder.node.owners in
    record { owner = unwrap_or caller.user above.owner; group = above.group }

abbrev pub new_node : ℕ → Caller → ObjKind → Site → List ℕ → Node
new_node id caller kind folder name = record {
  id = id;
  parent = Some folder.node.id;
  name = name;
  kind = kind;
  owners = new_owners caller folder;
  dacl = new_held Dacl kind folder;
  sacl = new_held Sacl kind folder;
}

-- ---- a move

-- A list that is linked at its new place keeps nothing, and any other the inherited entries from
-- before.
abbrev pub moved_held : Which → Site → Site → Held
moved_held which target folder = let held = held_of which target.node in
    record held {
      inh = if is_linked held (Some (held_of which folder.node))
          then [] else inherited_at which target;
    }

abbrev pub moved_node : Site → Site → List ℕ → Node
moved_node target folder name = record target.node {
  parent = Some folder.node.id;
  name = name;
  dacl = moved_held Dacl target folder;
  sacl = moved_held Sacl target folder;
}

-- ---- a list that is set

-- The entries without INHERITED become the own ones. Those with it are kept where the list isn't
-- linked by its new flags.
abbrev pub sent_held : Option Held → Sent → Held
sent_held above sent = let held : Held =
    record { flags = sent.flags; own = own_of sent.entries; inh = inherited_of sent.entries } in
    if is_linked held above then record held { inh = [] } else held

-- Where AUTO_INHERIT is cleared, each child that isn't protected keeps what it inherited. Where it
-- is set, such a child keeps nothing of its own.
abbrev pub kept_by_child : Bool → Bool → ObjKind → List Ace → Held → Held
kept_by_child before after kind full held =
    if held.flags.protect then held else
    if before && not after then record held { inh = pass kind full } else
    if not before && after then record held { inh = [] } else held

abbrev pub set_list : Content → Which → Sent → Option Site → Site → Content
set_list content which sent folder target =
    let old = held_of which target.node in
    let new = sent_held (option_map (λ site. held_of which site.node) folder) sent in
    let full = full_at which target in
    let kept : Node → Held =
    λ node. kept_by_child old.flags.auto new.flags.auto node.kind full (held_of which node) in
    let child : Node → Node =
    λ node. if has_parent target.node.id node then with_held which (kept node) node else node in
    with_node (with_each content child) (with_held which new target.node)

-- ---- all requests

-- what a request does with the object that its plan has found
abbrev pub with_site : Content → Option Site → (Site → Reply × Content) → Reply × Content
with_site content found act = option_map_or act found (Done, content)

abbrev pub put_bytes : Content → Caller → ℕ → List (List ℕ) → List ℕ → Option Site → Option Site
    → Reply × Content
put_bytes content caller id path bytes (Some target) parent =
    (Done, with_body content target.node.id bytes)
put_bytes content caller id path bytes None parent = with_site content parent (λ folder.
    let made = with_node content (new_node id caller Document folder (last_name path)) in
    (Made, with_body made id bytes))

-- what a request does with the object at a path
abbrev pub with_target : Content → List (List ℕ) → (Site → Reply × Content) → Reply × Content
with_target content path act = with_site content (site_at (sites_along content path) path) act

abbrev pub names_at : Content → ℕ → List (List ℕ × ObjKind)
names_at content id = map (λ node. (node.name, node.kind)) (children_of content id)

abbrev pub bytes_at : Content → ℕ → List ℕ
bytes_at content id = unwrap_or (body_of content id) []

abbrev pub rulings : Caller → List ℕ → Site → List (List ℕ × Ruling)
rulings caller mask target =
    map (λ bit. (bit ∷ [], ruling_of (full_at Dacl target) caller target.node.owners bit)) mask

-- The reply and the content after, where a new object gets this number.
abbrev pub effect : Content → Caller → ℕ → Request → Reply × Content
effect content caller id (Read path) = with_target content path
    (λ target. (Bytes (bytes_at content target.node.id), content))
effect content caller id (ListFolder path) = with_target content path
    (λ target. (Names (names_at content target.node.id), content))
effect content caller id (Put path bytes) = let sites = sites_along content path in
    put_bytes content caller id path bytes (site_at sites path) (parent_at sites path)
effect content caller id (Append path bytes) = with_target content path
    (λ target. let id = target.node.id in
    (Done, with_body content id (bytes_at content id ++ bytes)))
effect content caller id (MakeFolder path) =
    with_site content (parent_at (sites_along content path) path)
    (λ folder. (Made, with_node content (new_node id caller Folder folder (last_name path))))
effect content caller id (Remove path) = with_target content path
    (λ target. (Done, without_node content target.node.id))
effect content caller id (Move path to) = with_target content path
    (λ target. with_target content (front to)
    (λ folder. (Done, with_node content (moved_node target folder (last_name to)))))
effect content caller id (ReadList path which) = with_target content path
    (λ target. (Lists (held_of which target.node).flags (full_at which target), content))
effect content caller id (SetList path which sent) = with_target content path
    (λ target. let folder = parent_at (sites_along content path) path in
    (Done, set_list content which sent folder target))
effect content caller id (ReadAttr path) = with_target content path
    (λ target. (Attr target.node.kind target.node.owners, content))
effect content caller id (SetOwners path owners) = with_target content path
    (λ target. (Done, with_node content (record target.node { owners = owners })))
effect content caller id (Can path mask) = with_target content path
    (λ target. (Rulings (rulings caller mask target), content))
