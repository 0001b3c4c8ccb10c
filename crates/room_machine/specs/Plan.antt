-- The plan of a request: everything that has to pass, in order, written down before anything is
-- judged (own).
use Rattle.std.specs.Prelude.{ℕ, ◌+◌, ◌==◌, ◌&&◌, Bool, true, false, not, List, [], ◌∷◌, ◌++◌}
use Rattle.std.specs.Prelude.{length, Option, Some, None, is_some, nat_lt, if◌then◌else◌, unwrap_or}
use Rattle.std.specs.List.{list_any}
use Rattle.std.specs.Option.{option_map_or}
use Rattle.room_entry.specs.Rights.{read_data, write_data, append_data, execute, read_attributes}
use Rattle.room_entry.specs.Rights.{read_acl, write_acl, write_owner}
use Rattle.room_entry.specs.Valid.{first_bad_entry, is_document}
use Rattle.room_entry.specs.declared.fault.EntryFault.{EntryFault}
use Rattle.room_entry.specs.declared.limits.TheConstants.{MOST_BYTES}
use Rattle.room_rows.specs.declared.node.Node.{Node}
use Rattle.room_rows.specs.Content.{Content, is_empty, is_folder, children_of, child_of, body_of}
use Rattle.room_machine.specs.declared.request.Request.{Request}
use Rattle.room_machine.specs.declared.request.Request.TheVariants.{Read, List as ListFolder, Put}
use Rattle.room_machine.specs.declared.request.Request.TheVariants.{Append, MakeFolder, Remove}
use Rattle.room_machine.specs.declared.request.Request.TheVariants.{Move, ReadList, SetList}
use Rattle.room_machine.specs.declared.request.Request.TheVariants.{ReadAttr, SetOwners, Can}
use Rattle.room_machine.specs.declared.reply.Reason.{Reason}
use Rattle.room_machine.specs.declared.reply.Reason.TheVariants.{NoSuch, NotFolder, WrongKind}
use Rattle.room_machine.specs.declared.reply.Reason.TheVariants.{Exists, NotEmpty, Root, Loop}
use Rattle.room_machine.specs.declared.reply.Reason.TheVariants.{BadList, TooLarge}
use Rattle.room_machine.specs.Site.{Site, sites_along, site_at, parent_at, front, last_name}

-- A check of bits on an object; the deletion rule on an object and its parent; or a refusal at a
-- path for a reason, where the fact holds.
pub data Item : Type 0 where
  Check : Site → List ℕ → Item
  Deletion : Site → Site → Item
  Refusal : List (List ℕ) → Reason → Bool → Item

-- The way to a target. Each object before it is a folder, grants EXECUTE, and has a child of the
-- next name, but for the last name where it may be absent.
abbrev pub way : Bool → List Site → List (List ℕ) → List Item
way may_lack [] names = []
way may_lack (site ∷ sites) [] = []
way may_lack (site ∷ sites) (name ∷ names) =
    Refusal site.path NotFolder (not (is_folder site.node))
    ∷ Check site (execute ∷ [])
    ∷ Refusal (site.path ++ name ∷ []) NoSuch (is_empty sites && not (may_lack && is_empty names))
    ∷ way may_lack sites names

-- what follows where an object was found; else the way has a refusal
abbrev pub where_found : Option Site → (Site → List Item) → List Item
where_found found items = option_map_or items found []

-- what a walk along a path finds
abbrev pub Along : Type 0
Along = List (List ℕ) → List Site

abbrev pub target_by : Along → List (List ℕ) → (Site → List Item) → List Item
target_by along path items = let sites = along path in
    way false sites path ++ where_found (site_at sites path) items

abbrev pub to_target : Content → List (List ℕ) → (Site → List Item) → List Item
to_target content path items = target_by (sites_along content) path items

abbrev pub no_folder : Site → Item
no_folder site = Refusal site.path WrongKind (is_folder site.node)

abbrev pub no_document : Site → Item
no_document site = Refusal site.path WrongKind (not (is_folder site.node))

abbrev pub not_over : List (List ℕ) → ℕ → Item
not_over path size = Refusal path TooLarge (nat_lt MOST_BYTES size)

-- the refusal for an entry that may not stand in the list, by its place
abbrev pub bad_list : List (List ℕ) → Option EntryFault → List Item
bad_list path None = []
bad_list path (Some fault) = Refusal path (BadList fault.place fault.why) true ∷ []

-- what a new place needs: w for a document, a for a folder
abbrev pub right_to_add : Node → ℕ
right_to_add node = if is_document node.kind then write_data else append_data

-- a move of an object from its folder to another by a new name
abbrev pub move_to : Along → Content → List (List ℕ) → Site → Site → List Item
move_to along content to target from = let sites = along (front to) in
    way false sites (front to)
    ++ where_found (site_at sites (front to)) (λ folder.
    Refusal folder.path NotFolder (not (is_folder folder.node))
    ∷ Check folder (execute ∷ [])
    ∷ Deletion target from
    ∷ Check folder (right_to_add target.node ∷ [])
    ∷ Refusal to Exists (is_some (child_of content folder.node.id (last_name to)))
    ∷ Refusal to Loop (list_any (λ site. site.node.id == target.node.id) sites)
    ∷ [])

abbrev pub move_items : Along → Content → List (List ℕ) → Site → Site → List Item
move_items along content [] target from = Deletion target from ∷ Refusal [] Exists true ∷ []
move_items along content (name ∷ names) target from =
    move_to along content (name ∷ names) target from

-- a document that is there, or one that isn't yet
abbrev pub put_items : List (List ℕ) → ℕ → Option Site → Option Site → List Item
put_items path size (Some target) parent = no_folder target ∷ Check target (write_data ∷ [])
    ∷ not_over path size ∷ []
put_items path size None parent = where_found parent
    (λ folder. Check folder (write_data ∷ []) ∷ not_over path size ∷ [])

-- The plan of a request, where walks find these objects with these lists.
abbrev pub plan_by : Along → Content → Request → List Item
plan_by along content (Read path) = target_by along path
    (λ target. no_folder target ∷ Check target (read_data ∷ []) ∷ [])
plan_by along content (ListFolder path) = target_by along path
    (λ target. no_document target ∷ Check target (read_data ∷ []) ∷ [])
plan_by along content (Put path bytes) = let sites = along path in
    way true sites path ++ put_items path (length bytes) (site_at sites path) (parent_at sites path)
plan_by along content (Append path bytes) = target_by along path (λ target.
    no_folder target
    ∷ Check target (append_data ∷ [])
    ∷ not_over path (length (unwrap_or (body_of content target.node.id) []) + length bytes)
    ∷ [])
plan_by along content (MakeFolder []) = Refusal [] Exists true ∷ []
plan_by along content (MakeFolder (name ∷ names)) = let sites = along (name ∷ names) in
    way true sites (name ∷ names)
    ++ where_found (parent_at sites (name ∷ names)) (λ folder.
    Check folder (append_data ∷ [])
    ∷ Refusal (name ∷ names) Exists (is_some (site_at sites (name ∷ names)))
    ∷ [])
plan_by along content (Remove path) = let sites = along path in
    target_by along path (λ target.
    Refusal path Root (is_empty path)
    ∷ where_found (parent_at sites path) (λ folder.
    Deletion target folder
    ∷ Refusal path NotEmpty (not (is_empty (children_of content target.node.id)))
    ∷ []))
plan_by along content (Move path to) = let sites = along path in
    target_by along path (λ target.
    Refusal path Root (is_empty path)
    ∷ where_found (parent_at sites path) (move_items along content to target))
plan_by along content (ReadList path which) = target_by along path
    (λ target. Check target (read_acl ∷ []) ∷ [])
plan_by along content (SetList path which sent) = target_by along path
    (λ target. Check target (write_acl ∷ [])
    ∷ bad_list path (first_bad_entry 1 which target.node.kind sent.entries))
plan_by along content (ReadAttr path) = target_by along path
    (λ target. Check target (read_attributes ∷ []) ∷ [])
plan_by along content (SetOwners path owners) = target_by along path
    (λ target. Check target (write_owner ∷ []) ∷ [])
plan_by along content (Can path mask) = target_by along path (λ target. [])

-- The plan of a request, with the lists that are computed from the root.
abbrev pub plan_of : Content → Request → List Item
plan_of content request = plan_by (sites_along content) content request
