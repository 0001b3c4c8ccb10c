-- The lines that a dump has of an object (own).
use Rattle.std.specs.Prelude.{ℕ, List, [], ◌++◌, codes, decimal}
use Rattle.room_ace.specs.Lists.{list_text}
use Rattle.room_entry.specs.declared.object.ObjKind.{ObjKind}
use Rattle.room_rows.specs.HeldList.{Held}
use Rattle.room_rows.specs.Held.{full_of}
use Rattle.room_rows.specs.declared.node.Node.{Node}

-- a document is named with the number of its bytes
abbrev pub kind_label : ObjKind → List ℕ
kind_label ObjKind.Folder = codes "folder "
kind_label ObjKind.Document = codes "document "

abbrev pub size_text : ObjKind → ℕ → List ℕ
size_text ObjKind.Folder size = []
size_text ObjKind.Document size = decimal size ++ codes " "

abbrev pub owners_text : List ℕ → List ℕ → List ℕ
owners_text owner group = owner ++ (codes " " ++ (group ++ codes " "))

-- kind, owner, group, the size of a document, and the path
abbrev pub heading : List ℕ → Node → ℕ → List ℕ
heading path node size =
    kind_label node.kind
    ++ (owners_text node.owners.owner node.owners.group
    ++ (size_text node.kind size ++ (path ++ codes "\n")))

-- a list as its row stands: own, then stored inherited entries
abbrev pub held_text : Held → List ℕ
held_text held = list_text held.flags (full_of held)

abbrev pub object_text : List ℕ → Node → ℕ → List ℕ
object_text path node size =
    heading path node size
    ++ (codes "dacl\n" ++ (held_text node.dacl ++ (codes "sacl\n" ++ held_text node.sacl)))
