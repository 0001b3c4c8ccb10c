-- What the rooms contain.
use Rattle.std.specs.Prelude.{◌≡◌, ℕ, zero, suc, ◌==◌, ◌&&◌, ◌||◌, Bool, true, false, not, List, []}
use Rattle.std.specs.Prelude.{◌∷◌, ◌++◌, map, filter, length, Option, Some, None, is_none}
use Rattle.std.specs.Prelude.{option_and_then, if◌then◌else◌, nat_lt, IsTrue}
use Rattle.std.specs.List.{list_any, list_all, find}
use Rattle.std.specs.Option.{option_map, option_map_or}
use Rattle.std.specs.Ordering.{nat_cmp, is_lt}
use Rattle.std.specs.Cmp.Lexicographic.{slice_cmp}
use Rattle.room_entry.specs.Pieces.{same_text}
use Rattle.room_entry.specs.declared.object.Which.{Which}
use Rattle.room_entry.specs.declared.object.Which.TheVariants.{Dacl, Sacl}
use Rattle.room_entry.specs.Valid.{is_document}
use Rattle.room_rows.specs.declared.node.Node.{Node}
use Rattle.room_rows.specs.declared.node.AuditRow.{AuditRow}
use Rattle.room_rows.specs.Held.{held_of, is_linked}

-- The objects in rising order of their numbers, the bytes of documents by their numbers, the pairs
-- of group and user in order, each once, and the records, oldest first.
-- Of rows, the inherited entries of an object are those that are stored. Of a content, they are
-- those that are kept.
pub record Content : Type 0 where
  pub nodes : List Node
  pub bodies : List (ℕ × List ℕ)
  pub members : List (List ℕ × List ℕ)
  pub audits : List AuditRow

-- ---- looking up

abbrev pub node_at : Content → ℕ → Option Node
node_at content id = find (λ node. node.id == id) content.nodes

abbrev pub has_parent : ℕ → Node → Bool
has_parent id node = option_map_or (λ parent. parent == id) node.parent false

abbrev pub root_of : Content → Option Node
root_of content = find (λ node. is_none node.parent) content.nodes

abbrev pub child_of : Content → ℕ → List ℕ → Option Node
child_of content id name =
    find (λ node. has_parent id node && same_text node.name name) content.nodes

-- texts in the order of their bytes
abbrev pub is_before : List ℕ → List ℕ → Bool
is_before a b = is_lt (slice_cmp nat_cmp a b)

abbrev pub put_by_name : Node → List Node → List Node
put_by_name node [] = node ∷ []
put_by_name node (other ∷ others) =
    if is_before other.name node.name then other ∷ put_by_name node others else
    node ∷ other ∷ others

abbrev pub sorted_by_name : List Node → List Node
sorted_by_name [] = []
sorted_by_name (node ∷ nodes) = put_by_name node (sorted_by_name nodes)

-- the children in order of name
abbrev pub children_of : Content → ℕ → List Node
children_of content id = sorted_by_name (filter (has_parent id) content.nodes)

abbrev pub body_at : List (ℕ × List ℕ) → ℕ → Option (List ℕ)
body_at [] id = None
body_at (row ∷ rows) id = if row.0 == id then Some row.1 else body_at rows id

abbrev pub body_of : Content → ℕ → Option (List ℕ)
body_of content id = body_at content.bodies id

-- the groups that are paired with the user, in order
abbrev pub groups_of : Content → List ℕ → List (List ℕ)
groups_of content user =
    map (λ pair. pair.0) (filter (λ pair. same_text pair.1 user) content.members)

-- the groups of a caller; a caller without a name has none
abbrev pub groups_for : Content → Option (List ℕ) → List (List ℕ)
groups_for content None = []
groups_for content (Some user) = groups_of content user

-- ---- changing

abbrev pub put_node : Node → List Node → List Node
put_node node [] = node ∷ []
put_node node (other ∷ others) =
    if nat_lt other.id node.id then other ∷ put_node node others else
    if other.id == node.id then node ∷ others else node ∷ other ∷ others

abbrev pub put_body : ℕ → List ℕ → List (ℕ × List ℕ) → List (ℕ × List ℕ)
put_body id bytes [] = (id, bytes) ∷ []
put_body id bytes (row ∷ rows) =
    if nat_lt row.0 id then row ∷ put_body id bytes rows else
    if row.0 == id then (id, bytes) ∷ rows else (id, bytes) ∷ row ∷ rows

abbrev pub with_node : Content → Node → Content
with_node content node = record content { nodes = put_node node content.nodes }

abbrev pub with_body : Content → ℕ → List ℕ → Content
with_body content id bytes = record content { bodies = put_body id bytes content.bodies }

-- the same objects, each changed
abbrev pub with_each : Content → (Node → Node) → Content
with_each content change = record content { nodes = map change content.nodes }

abbrev pub without_node : Content → ℕ → Content
without_node content id =
    record content {
      nodes = filter (λ node. not (node.id == id)) content.nodes;
      bodies = filter (λ row. not (row.0 == id)) content.bodies;
    }

abbrev pub with_records : Content → List AuditRow → Content
with_records content rows = record content { audits = content.audits ++ rows }

-- pairs in order of group, then user, each once
abbrev pub is_pair_before : List ℕ × List ℕ → List ℕ × List ℕ → Bool
is_pair_before a b = is_before a.0 b.0 || (same_text a.0 b.0 && is_before a.1 b.1)

abbrev pub put_pair : List ℕ × List ℕ → List (List ℕ × List ℕ) → List (List ℕ × List ℕ)
put_pair pair [] = pair ∷ []
put_pair pair (other ∷ others) =
    if is_pair_before other pair then other ∷ put_pair pair others else
    if is_pair_before pair other then pair ∷ other ∷ others else other ∷ others

abbrev pub set_of : List (List ℕ × List ℕ) → List (List ℕ × List ℕ)
set_of [] = []
set_of (pair ∷ pairs) = put_pair pair (set_of pairs)

abbrev pub with_members : Content → List (List ℕ × List ℕ) → Content
with_members content pairs = record content { members = set_of pairs }

abbrev pub is_empty : {A : Type 0} → List A → Bool
is_empty [] = true
is_empty (x ∷ xs) = false

-- ---- when it is a content

-- the parent of an object, and its list
abbrev pub parent_of : Content → Node → Option Node
parent_of content node = option_and_then (node_at content) node.parent

abbrev pub is_linked_in : Content → Which → Node → Bool
is_linked_in content which node =
    is_linked (held_of which node) (option_map (held_of which) (parent_of content node))

-- whether the parents lead to the root in at most n steps
abbrev pub reaches_root : ℕ → Content → Option ℕ → Bool
reaches_root n content None = true
reaches_root zero content (Some id) = false
reaches_root (suc n) content (Some id) =
    option_map_or (λ parent. reaches_root n content parent.parent) (node_at content id) false

abbrev pub is_folder : Node → Bool
is_folder node = not (is_document node.kind)

abbrev pub is_root : Node → Bool
is_root node = is_none node.parent

-- the numbers rise
abbrev pub is_rising : List ℕ → Bool
is_rising [] = true
is_rising (id ∷ []) = true
is_rising (id ∷ next ∷ ids) = nat_lt id next && is_rising (next ∷ ids)

abbrev pub same_parent : Option ℕ → Option ℕ → Bool
same_parent None None = true
same_parent None (Some id) = false
same_parent (Some id) None = false
same_parent (Some id) (Some other) = id == other

-- no two objects stand under the same parent by the same name
abbrev pub are_names_apart : List Node → Bool
are_names_apart [] = true
are_names_apart (node ∷ nodes) =
    not (list_any
    (λ other. same_parent node.parent other.parent && same_text node.name other.name) nodes)
    && are_names_apart nodes

-- the parent is there and is a folder
abbrev pub has_folder_above : Content → Node → Bool
has_folder_above content node =
    is_root node || option_map_or is_folder (parent_of content node) false

-- no inherited entries are kept where they come from the parent
abbrev pub keeps_none_linked : Content → Which → Node → Bool
keeps_none_linked content which node =
    not (is_linked_in content which node) || is_empty (held_of which node).inh

pub record IsContent (content : Content) : Type 0 where
  pub numbers : IsTrue (is_rising (map (λ node. node.id) content.nodes))
  pub one_root : IsTrue (option_map_or is_folder (root_of content) false
      && (length (filter is_root content.nodes) == 1))
  pub parents : IsTrue (list_all (has_folder_above content) content.nodes)
  pub connected : IsTrue (list_all
      (λ node. reaches_root (length content.nodes) content node.parent) content.nodes)
  pub names : IsTrue (are_names_apart content.nodes)
  pub bodies : map (λ row. row.0) content.bodies
      ≡ map (λ node. node.id) (filter (λ node. is_document node.kind) content.nodes)
  pub kept : IsTrue (list_all
      (λ node. keeps_none_linked content Dacl node && keeps_none_linked content Sacl node)
      content.nodes)
  pub members : set_of content.members ≡ content.members
