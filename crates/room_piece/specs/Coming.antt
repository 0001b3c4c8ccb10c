-- An object that comes to a piece (own).
use Rattle.std.specs.Prelude.{◌≡◌, ℕ, ◌+◌, ◌<◌, ◌⊎◌, true, not, List, [], ◌∷◌, filter, length}
use Rattle.std.specs.Prelude.{Option, Some, None, is_some, if◌then◌else◌, nat_lt}
use Rattle.room_entry.specs.Valid.{is_document}
use Rattle.room_rows.specs.declared.node.NewNode.{NewNode}
use Rattle.room_rows.specs.declared.node.Node.{Node}
use Rattle.room_rows.specs.Content.{Content, child_of, is_folder, with_body}
use Rattle.room_rows.specs.Keep.{Adds, node_of, with_bytes, with_content, with_new}
use Rattle.room_rows.specs.Held.{is_linked}
use Rattle.room_rows.specs.Meaning.{kept_held, meaning}
use Rattle.room_rows.specs.Paths.{is_object_name}
use Rattle.room_rows.specs.Rows.{AreRows, Rows}
use Rattle.room_memory.specs.Memory.{rows_in}
use Rattle.room_memory.specs.Objects.{greatest}
use Rattle.room_memory.specs.declared.memory.MemKeep.{MemKeep}
use Rattle.room_machine.specs.declared.reply.Reply.{Reply}
use Rattle.room_machine.specs.declared.reply.Reason.TheVariants.{Exists, NoSuch, NotFolder}
use Rattle.room_machine.specs.Changed.{passed_held}
use Rattle.room_machine.specs.Judge.{first_failure}
use Rattle.room_machine.specs.Plan.{Item, Refusal}
use Rattle.room_machine.specs.Site.{Site, front, last_name, site_at}
use Rattle.room_machine.specs.Step.{is_refusal}
use Rattle.room_machine.specs.Stored.{stored_along, stored_site, to_stored}
use Rattle.room_change.specs.Changes.{Comes as CameTo, changed, nobody}
use Rattle.room_desk.specs.Relocating.{EndsAt}
use Rattle.room_question.specs.declared.question.Object.{Object}
use Rattle.room_piece.specs.Holding.{IsWell}
use Rattle.room_piece.specs.Marking.{is_unread, with_mark}
use Rattle.room_piece.specs.Owning.{is_each, owners_of}
use Rattle.room_piece.specs.Refusing.{why_of}
use Rattle.room_piece.specs.Storing.{IsWithin, listed, misfit}
use Rattle.room_piece.specs.declared.walking.Way.{Way}
use Rattle.room_piece.specs.declared.piece.Piece.{Piece}
use Rattle.room_piece.specs.declared.refusal.Refusal.{Refusal as Refuses}
use Rattle.room_piece.specs.declared.refusal.RefusalWhy.{RefusalWhy}
use Rattle.room_piece.specs.declared.refusal.RefusalWhy.TheVariants.{Room}

-- the object as it is stored in a folder by this name
abbrev pub object_in : List ℕ → Object → List ℕ → Node → NewNode
object_in unread object name folder = record {
  parent = Some folder.id;
  name = name;
  kind = object.kind;
  owners = owners_of unread object;
  dacl = listed object.list object.kind folder.dacl;
  sacl = passed_held object.kind folder.sacl;
}

-- ---- where it comes to

-- the object at a path, as it is stored
abbrev pub IsAt : List (List ℕ) → Node → Rows → Type 0
IsAt path node rows =
    site_at (stored_along rows.read path) path ≡ Some (stored_site path node)

-- the folder of a path, where the walk to it ends
pub record IsFolderFor (path : List (List ℕ)) (folder : Node) (rows : Rows) : Type 0 where
  pub some : 0 < length path
  pub ends : EndsAt (front path) folder 0 rows
  pub folds : is_folder folder ≡ true

-- and nothing in it has the path's last name
pub record IsPlaceFor (path : List (List ℕ)) (folder : Node) (rows : Rows) : Type 0 where
  pub way : IsFolderFor path folder rows
  pub free : child_of rows.read folder.id (last_name path) ≡ None

-- why the way can't be one to a folder: it ends at a document, or a name is left over
abbrev pub way_fault : Way → Option RefusalWhy
way_fault way = if is_document way.last.kind then Some (Room NotFolder) else
    if nat_lt 0 way.rest then Some (Room NoSuch) else None

-- what has to be so of the folder
abbrev pub items_for : Content → List (List ℕ) → Site → List Item
items_for rows path folder =
    Refusal folder.path NotFolder (not (is_folder folder.node))
    ∷ Refusal path Exists (is_some (child_of rows folder.node.id (last_name path))) ∷ []

-- The way to the folder, and what has to be so of it. The root stands already.
abbrev pub plan_for : Content → List (List ℕ) → List Item
plan_for rows [] = Refusal [] Exists true ∷ []
plan_for rows (name ∷ names) =
    to_stored rows (front (name ∷ names)) (items_for rows (name ∷ names))

-- why nothing can come to the path: the first refusal
pub record IsBarred (path : List (List ℕ)) (rows : Rows) (why : RefusalWhy) : Type 0 where
  pub reply : Reply
  pub first : first_failure nobody (filter is_refusal (plan_for rows.read path)) ≡ Some reply
  pub told : why_of reply ≡ Some why

-- ---- what is added

-- the number after the greatest one
abbrev pub next_number : Rows → ℕ
next_number rows = greatest rows.read.nodes + 1

-- an object in a folder as the rows mean it: what it takes from the folder isn't kept with it
abbrev pub meant_in : Node → Node → Node
meant_in folder node = record node {
  dacl = kept_held (is_linked node.dacl (Some folder.dacl)) node.dacl;
  sacl = kept_held (is_linked node.sacl (Some folder.sacl)) node.sacl;
}

-- the room to which the object came, with no bytes where it is a document
abbrev pub with_comer : Content → List (List ℕ) → Node → Content
with_comer room path node = let with_it = changed room (CameTo path node) in
    if is_document node.kind then with_body with_it node.id [] else with_it

pub record AddsTo (node : NewNode) (old : MemKeep) (id : ℕ) (new : MemKeep) : Type 0 where
  pub number : id ≡ next_number (rows_in old)
  pub rows : AreRows (rows_in old) → AreRows (rows_in new)
  pub adds : AreRows (rows_in old) → Adds (with_bytes node []) (rows_in old) id (rows_in new)

-- what isn't known, and what each is to have made, with the object
pub record IsMarked (object : Object) (id : ℕ) (old new : Piece) : Type 0 where
  pub each : new.each ≡ with_mark (is_each object.owner) id old.each
  pub unknown : new.unknown ≡ with_mark (is_unread object.list) id old.unknown

pub record ComesInto (unread : List ℕ) (object : Object) (name : List ℕ) (folder : Node)
    (old new : Piece) : Type 0 where
  pub fits : misfit object folder.dacl ≡ None
  pub within : IsWithin object.list
  pub added : AddsTo (object_in unread object name folder) old.keep
      (next_number (rows_in old.keep)) new.keep
  pub marked : IsMarked object (next_number (rows_in old.keep)) old new

-- The object stands in its folder, and has the next number. The room means what its coming makes of
-- it, and the rows are sound again.
pub record HasCome (unread : List ℕ) (object : Object) (old new : Piece) : Type 0 where
  pub folder : Node
  pub place : IsPlaceFor object.path folder (rows_in old.keep)
  pub named : is_object_name (last_name object.path) ≡ true
  pub fits : misfit object folder.dacl ≡ None
  pub becomes : rows_in new.keep ≡ with_content (rows_in old.keep)
      (with_new (rows_in old.keep).read (next_number (rows_in old.keep))
      (with_bytes (object_in unread object (last_name object.path) folder) []))
  pub means : meaning (rows_in new.keep).read
      ≡ with_comer (meaning (rows_in old.keep).read) object.path
      (meant_in folder (node_of (next_number (rows_in old.keep))
      (object_in unread object (last_name object.path) folder)))
  pub well : IsWell new.keep
  pub marked : IsMarked object (next_number (rows_in old.keep)) old new

abbrev pub Comes : List ℕ → Object → Piece → Piece → Type 0
Comes unread object old new = IsWell old.keep → HasCome unread object old new

-- the way to its folder is refused, or its list can't stand there
abbrev pub IsKeptOut : Object → Rows → RefusalWhy → Type 0
IsKeptOut object rows why = IsBarred object.path rows why
    ⊎ ((folder : Node) × IsPlaceFor object.path folder rows
    × (misfit object folder.dacl ≡ Some why))

pub record CannotCome (object : Object) (old : Piece) (refusal : Refuses) : Type 0 where
  pub line : refusal.line ≡ object.line
  pub why : IsWell old.keep → IsKeptOut object (rows_in old.keep) refusal.why
