-- The text of all objects (own).
use Rattle.std.specs.Prelude.{◌≡◌, ℕ, zero, suc, Bool, true, List, [], ◌∷◌, ◌++◌, length, Option}
use Rattle.std.specs.Prelude.{codes, is_some}
use Rattle.std.specs.List.{flat_map, list_all}
use Rattle.std.specs.Option.{option_map_or}
use Rattle.room_entry.specs.Bytes.{slash}
use Rattle.room_entry.specs.declared.object.ObjKind.{ObjKind}
use Rattle.room_rows.specs.declared.node.Node.{Node}
use Rattle.room_rows.specs.Content.{Content, body_of, children_of, root_of}
use Rattle.room_rows.specs.Rooted.{HasRoot}
use Rattle.room_rows.specs.Rows.{Rows, numbers_of}
use Rattle.room_dump.specs.Lines.{object_text}
use Rattle.room_dump.specs.Members.{members_text}

-- the number of a document's bytes, and 0 for a folder
abbrev pub size_in : ObjKind → Option (List ℕ) → ℕ
size_in ObjKind.Folder bytes = 0
size_in ObjKind.Document bytes = option_map_or length bytes 0

abbrev pub size_of : Content → Node → ℕ
size_of content node = size_in node.kind (body_of content node.id)

-- The path as it is printed: the root's is empty here, and printed as a slash.
abbrev pub shown : List ℕ → List ℕ
shown [] = codes "/"
shown (byte ∷ bytes) = byte ∷ bytes

abbrev pub path_below : List ℕ → Node → List ℕ
path_below above node = above ++ slash ∷ node.name

-- What is told of an object at a place, and after it of its children with all that is below them,
-- in order of name, no deeper than the number says. The place of a child comes from its parent's.
abbrev pub tree_of : {P X : Type 0} → (P → Node → Node → P) → (P → Node → List X) → ℕ → Content → P
    → Node → List X
tree_of below tell zero content place node = []
tree_of below tell (suc depth) content place node =
    tell place node
    ++ flat_map (λ child. tree_of below tell depth content (below place node child) child)
    (children_of content node.id)

-- the path of a child
abbrev pub child_path : List ℕ → Node → Node → List ℕ
child_path path node child = path_below path child

-- Of all objects, the root first. No object is deeper than there are rows.
abbrev pub all_of : {X : Type 0} → (List ℕ → Node → List X) → Rows → List X
all_of tell rows =
    option_map_or (tree_of child_path tell (length (numbers_of rows)) rows.read [])
    (root_of rows.read) []

-- the lines of an object
abbrev pub object_lines : Content → List ℕ → Node → List ℕ
object_lines content path node = object_text (shown path) node (size_of content node)

abbrev pub tree_text : ℕ → Content → List ℕ → Node → List ℕ
tree_text depth content = tree_of child_path (object_lines content) depth content

abbrev pub objects_text : Rows → List ℕ
objects_text rows = all_of (object_lines rows.read) rows

-- the object itself
abbrev pub itself : List ℕ → Node → List Node
itself path node = node ∷ []

-- a document is to have bytes
abbrev pub is_filled : ObjKind → Option (List ℕ) → Bool
is_filled ObjKind.Folder bytes = true
is_filled ObjKind.Document bytes = is_some bytes

abbrev pub has_bytes : Content → Node → Bool
has_bytes content node = is_filled node.kind (body_of content node.id)

-- each document that is printed has bytes
abbrev pub HasAllBytes : Rows → Type 0
HasAllBytes rows = list_all (has_bytes rows.read) (all_of itself rows) ≡ true

-- The text of all objects: there is a root, and each document has bytes.
abbrev pub IsDumpText : Rows → List ℕ → Type 0
IsDumpText rows text = (text ≡ objects_text rows) × HasAllBytes rows × HasRoot rows

-- A whole room: all objects, followed by the pairs, which rows have in order of group and then of
-- user.
abbrev pub room_text : Rows → List ℕ
room_text rows = objects_text rows ++ members_text rows.read.members
