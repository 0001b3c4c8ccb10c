-- What a piece says of the room after its changes (own).
use Rattle.std.specs.Prelude.{◌≡◌, ℕ, List, [], None, Option, Some}
use Rattle.std.specs.List.{AllZip}
use Rattle.room_rows.specs.declared.node.Node.{Node}
use Rattle.room_rows.specs.Content.{Content, node_at}
use Rattle.room_rows.specs.Meaning.{meaning}
use Rattle.room_machine.specs.Site.{Site, last_name, site_at, sites_along}
use Rattle.room_memory.specs.Memory.{rows_in}
use Rattle.room_change.specs.Changes.{Change as Made, Sets as IsSetTo, Moves as IsMovedTo}
use Rattle.room_change.specs.Changes.{Comes as IsComing, came_from, changed_by}
use Rattle.room_question.specs.declared.question.Change.{Change}
use Rattle.room_question.specs.declared.question.Change.TheVariants.{Sets, Moves, Comes}
use Rattle.room_question.specs.declared.question.Object.{Object}
use Rattle.room_piece.specs.{Changing.IsDone, Holding.IsWell, InTurn.InTurn, Owning.owners_of}
use Rattle.room_piece.specs.declared.piece.Piece.{Piece}

-- the room without the bytes of its documents, which grant nothing
abbrev pub bare : Content → Content
bare room = record room { bodies = [] }

-- the object as a question has it: its name, its kind and its owners
pub record IsAsAsked (unread : List ℕ) (object : Object) (node : Node) : Type 0 where
  pub name : node.name ≡ last_name object.path
  pub kind : node.kind ≡ object.kind
  pub owners : node.owners ≡ owners_of unread object

-- the change of a room that a question asks for
abbrev pub IsAskedFor : List ℕ → Change → Made → Type 0
IsAskedFor unread (Sets setting) made = made ≡ IsSetTo setting.path setting.list
IsAskedFor unread (Moves moving) made = made ≡ IsMovedTo moving.path moving.to
IsAskedFor unread (Comes object) made =
    (node : Node) × (made ≡ IsComing object.path node) × IsAsAsked unread object node

-- Where changes are done in turn, the room is the one that they make of it, but for bytes.
abbrev pub ChangedAsAsked : Type 0
ChangedAsAsked =
    (unread : List ℕ) (changes : List Change) (old new : Piece)
    → InTurn (IsDone unread) changes old new
    → (made : List Made) × AllZip (IsAskedFor unread) changes made
    × (bare (meaning (rows_in new.keep).read)
    ≡ changed_by (bare (meaning (rows_in old.keep).read)) made)

-- ---- where objects stood

-- an object of this number stands at the path
abbrev pub StandsAt : Content → ℕ → List (List ℕ) → Type 0
StandsAt room id path =
    (site : Site) × (site_at (sites_along room path) path ≡ Some site) × (site.node.id ≡ id)

-- it stood at the path; where there is none, no object had its number
abbrev pub Stood : Content → ℕ → Option (List (List ℕ)) → Type 0
Stood room id None = node_at room id ≡ None
Stood room id (Some path) = StandsAt room id path

-- In sound rows, too, each object stood where these changes say that it came from.
abbrev pub StoodAsAsked : Type 0
StoodAsAsked =
    (unread : List ℕ) (changes : List Change) (old new : Piece) → IsWell old.keep
    → InTurn (IsDone unread) changes old new
    → (made : List Made) × AllZip (IsAskedFor unread) changes made
    × (bare (meaning (rows_in new.keep).read)
    ≡ changed_by (bare (meaning (rows_in old.keep).read)) made)
    × ((path : List (List ℕ)) (id : ℕ) → StandsAt (meaning (rows_in new.keep).read) id path
    → Stood (meaning (rows_in old.keep).read) id (came_from made path))
