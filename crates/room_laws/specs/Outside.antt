-- What is behind a folder, what is seen outside, and who is barred from what is behind (own).
use Rattle.std.specs.Option.{option_map}
use Rattle.std.specs.Prelude.{◌≡◌, ℕ, ◌⊎◌, true, List, [], ◌∷◌, ◌++◌, Option, Some, None}
use Rattle.std.specs.Prelude.{option_and_then}
use Rattle.room_entry.specs.declared.object.ObjKind.{ObjKind}
use Rattle.room_rows.specs.Content.{Content, root_of, child_of, body_of}
use Rattle.room_rows.specs.declared.node.Node.{Node}
use Rattle.room_machine.specs.Effect.{names_at}
use Rattle.room_machine.specs.Judge.{first_failure}
use Rattle.room_machine.specs.Laws.{first_path}
use Rattle.room_machine.specs.Plan.{Item, way}
use Rattle.room_machine.specs.Site.{sites_along}
use Rattle.room_machine.specs.Step.{caller_in}
use Rattle.room_machine.specs.declared.reply.Reply.{Reply}
use Rattle.room_machine.specs.declared.request.Request.{Request}
use Rattle.room_machine.specs.declared.request.Request.TheVariants.{Move}

-- the object that these names lead to from another one
abbrev pub found_from : Content → Node → List (List ℕ) → Option Node
found_from content node [] = Some node
found_from content node (name ∷ names) =
    option_and_then (λ child. found_from content child names) (child_of content node.id name)

-- the object that a path leads to
abbrev pub found : Content → List (List ℕ) → Option Node
found content path = option_and_then (λ root. found_from content root path) (root_of content)

-- an object without its number and its parent's: requests can't see them
abbrev pub unnumbered : Node → Node
unnumbered node = record node { id = 0; parent = None }

-- what is seen of an object: name, kind, owners and lists, and the bytes of a document
abbrev pub Seen : Type 0
Seen = Node × Option (List ℕ)

abbrev pub sight : Content → Node → Seen
sight content node = (unnumbered node, body_of content node.id)

-- What is at a path. By the lists of the objects along a path, its full lists are determined too.
abbrev pub view : Content → List (List ℕ) → Option Seen
view content path = option_map (sight content) (found content path)

-- the names and kinds below the object at a path
abbrev pub listing : Content → List (List ℕ) → Option (List (List ℕ × ObjKind))
listing content path = option_map (λ node. names_at content node.id) (found content path)

-- The path is strictly below the front, which is a path too: it has all its names, and more.
abbrev pub IsBehind : List (List ℕ) → List (List ℕ) → Type 0
IsBehind front path =
    (name : List ℕ) × (names : List (List ℕ)) × (path ≡ front ++ name ∷ names)

-- Two contents are the same but for what is behind: the same pairs, the same at each path that
-- isn't behind, and the same names below each of these but the front. Numbers of objects may
-- differ, and so may records.
pub record SameOutside (front : List (List ℕ)) (a b : Content) : Type 0 where
  pub members : a.members ≡ b.members
  pub views : (path : List (List ℕ)) → (IsBehind front path → ⊥) → view a path ≡ view b path
  pub names : (path : List (List ℕ)) → (IsBehind front path → ⊥) → (path ≡ front → ⊥)
      → listing a path ≡ listing b path

-- the way to what is behind: each object down to the front is a folder and grants EXECUTE
abbrev pub way_behind : Content → List (List ℕ) → List Item
way_behind content front = way true (sites_along content front) (front ++ [] ∷ [])

-- The caller's way ends at the front or before it.
abbrev pub Barred : Content → Option (List ℕ) → List (List ℕ) → Type 0
Barred content user front = (reply : Reply)
    × (first_failure (caller_in content user) (way_behind content front) ≡ Some reply)

-- the path that a request walks last: the new place of a move
abbrev pub last_path : Request → List (List ℕ)
last_path (Move path to) = to
last_path request = first_path request

-- some path of the request is behind
abbrev pub Reaches : List (List ℕ) → Request → Type 0
Reaches front request = IsBehind front (first_path request) ⊎ IsBehind front (last_path request)
