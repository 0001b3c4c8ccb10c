-- What the calls of a keeper answer, and what they leave.
use Rattle.std.specs.Prelude.{◌≡◌, ℕ, ◌+◌, ◌<◌, ◌≤◌, ◌^◌, ◌-◌, ◌⊎◌, min, map, filter, Bool, not, List}
use Rattle.std.specs.Prelude.{[], ◌==◌, is_some, ◌∷◌, false, Option, Some, None, Result, Ok, Err}
use Rattle.std.specs.Prelude.{IfOk, IfErr, IsTrue, if◌then◌else◌}
use Rattle.std.specs.List.{list_all, list_any, filter_map, Contains}
use Rattle.std.specs.Option.{option_map_or}
use Rattle.room_entry.specs.Ace.{Ace}
use Rattle.room_entry.specs.Valid.{is_document}
use Rattle.room_entry.specs.declared.object.ObjKind.{ObjKind}
use Rattle.room_entry.specs.declared.object.Which.{Which}
use Rattle.room_entry.specs.declared.parties.Owners.{Owners}
use Rattle.room_rows.specs.declared.keep.KeepFault.{KeepFault}
use Rattle.room_rows.specs.declared.keep.KeepFault.TheVariants.{Memory, Store, NoRoot, Damaged}
use Rattle.room_rows.specs.declared.node.AuditRow.{AuditRow}
use Rattle.room_rows.specs.declared.node.NewNode.{NewNode}
use Rattle.room_rows.specs.declared.node.Node.{Node}
use Rattle.room_rows.specs.Content.{Content, node_at, root_of, child_of, children_of, body_of}
use Rattle.room_rows.specs.Content.{groups_of, is_empty, is_folder, with_node, with_body, with_each}
use Rattle.room_rows.specs.Content.{without_node, with_records}
use Rattle.room_rows.specs.Held.{held_of, with_held}
use Rattle.room_rows.specs.Rows.{AreRows, Rows, is_unreadable, numbers_of}

-- ---- counts

-- a count goes up to this number
abbrev pub last_count : ℕ
last_count = 2 ^ 64 - 1

abbrev pub capped : ℕ → ℕ
capped n = min n (2 ^ 64 - 1)

abbrev pub one_more : ℕ → ℕ
one_more n = capped (n + 1)

-- ---- faults

-- Memory may run out at any call. `Store` comes where the count of failures rose, or was at its end
-- before. `Damaged` comes for the numbers that the relation names, and `NoRoot` where it names 0,
-- which is no row's.
abbrev pub HasCause : ℕ → ℕ → (ℕ → Type 0) → KeepFault → Type 0
HasCause before after damaged Memory = Unit {0}
HasCause before after damaged Store = (before < after) ⊎ (2 ^ 64 - 1 ≤ before)
HasCause before after damaged NoRoot = damaged 0
HasCause before after damaged (Damaged id) = damaged id

-- What a fault blames, as `HasCause` numbers it: a row, or 0 for the root that is missing.
abbrev pub blamed_by : KeepFault → Option ℕ
blamed_by Memory = None
blamed_by Store = None
blamed_by NoRoot = Some 0
blamed_by (Damaged id) = Some id

-- no row
abbrev pub IsNever : Rows → ℕ → Type 0
IsNever rows row = ⊥

-- a row that can't be read
abbrev pub IsUnreadable : Rows → ℕ → Type 0
IsUnreadable rows row = IsTrue (is_unreadable rows row)

-- the row of this number, which can't be read
abbrev pub IsUnreadableAt : ℕ → Rows → ℕ → Type 0
IsUnreadableAt id rows row = (row ≡ id) × IsTrue (is_unreadable rows row)

-- a row that can't be read, or 0 where no object is without a parent
abbrev pub HasNoRoot : Rows → ℕ → Type 0
HasNoRoot rows row = IsTrue (is_unreadable rows row) ⊎ ((row ≡ 0) × (root_of rows.read ≡ None))

-- a document without bytes
abbrev pub LacksBytes : Rows → ℕ → Type 0
LacksBytes rows row =
    (node : Node) × (node_at rows.read row ≡ Some node) × IsTrue (is_document node.kind)
    × (body_of rows.read row ≡ None)

-- Every number that a fault may blame, where the keeper answers by its rows.
abbrev pub IsDamaged : Rows → ℕ → Type 0
IsDamaged rows row = HasNoRoot rows row ⊎ LacksBytes rows row

-- ---- what reading calls answer

abbrev pub IsRootOf : Rows → Node → Type 0
IsRootOf rows node = root_of rows.read ≡ Some node

abbrev pub AreNumbers : Rows → List ℕ → Type 0
AreNumbers rows ids = ids ≡ numbers_of rows

-- the object of this number, if there is one, and no row of that number that can't be read
abbrev pub IsNodeAt : ℕ → Rows → Option Node → Type 0
IsNodeAt id rows found = (found ≡ node_at rows.read id) × (is_unreadable rows id ≡ false)

abbrev pub IsChildOf : ℕ → List ℕ → Rows → Option Node → Type 0
IsChildOf parent name rows found = found ≡ child_of rows.read parent name

abbrev pub AreChildrenOf : ℕ → Rows → List Node → Type 0
AreChildrenOf parent rows nodes = nodes ≡ children_of rows.read parent

-- the names and kinds under this parent of the rows that can't be read as an object
abbrev pub unread_under : ℕ → Rows → List (List ℕ × ObjKind)
unread_under parent rows = filter_map (λ row. row.named)
    (filter (λ row. option_map_or (λ above. above == parent) row.parent false) rows.unreadable)

-- the first list in its order, and between its elements nothing but some of the others
abbrev pub IsMixed : {X : Type 0} → List X → List X → List X → Type 0
IsMixed others firsts [] = firsts ≡ []
IsMixed others [] (y ∷ ys) = Contains others y × IsMixed others [] ys
IsMixed others (x ∷ firsts) (y ∷ ys) =
    ((y ≡ x) × IsMixed others firsts ys) ⊎ (Contains others y × IsMixed others (x ∷ firsts) ys)

-- The name and the kind of each child, in order of name. A keeper may answer from names and kinds
-- alone, so those of a row under this parent that can't be read as an object may be among them.
abbrev pub AreNamedUnder : ℕ → Rows → List (List ℕ × ObjKind) → Type 0
AreNamedUnder parent rows names = IsMixed (unread_under parent rows)
    (map (λ node. (node.name, node.kind)) (children_of rows.read parent)) names

-- Whether there are children. Where a row can't be read, it may be a child, so the answer may be
-- yes though no object that is read is one.
abbrev pub HasChildren : ℕ → Rows → Bool → Type 0
HasChildren parent rows answer = (answer ≡ false → children_of rows.read parent ≡ [])
    × (rows.unreadable ≡ [] → answer ≡ not (is_empty (children_of rows.read parent)))

abbrev pub IsBodyOf : ℕ → Rows → Option (List ℕ) → Type 0
IsBodyOf id rows body = body ≡ body_of rows.read id

abbrev pub AreGroupsOf : List ℕ → Rows → List (List ℕ) → Type 0
AreGroupsOf user rows groups = groups ≡ groups_of rows.read user

-- ---- what writing calls leave

-- rows with another content
abbrev pub with_content : Rows → Content → Rows
with_content rows content = record rows { read = content }

abbrev pub with_inh : Which → List Ace → Node → Node
with_inh which entries node = with_held which (record (held_of which node) { inh = entries }) node

abbrev pub with_owners : Owners → Node → Node
with_owners owners node = record node { owners = owners }

abbrev pub with_place : ℕ → List ℕ → Node → Node
with_place parent name node = record node { parent = Some parent; name = name }

-- these objects are there
abbrev pub are_there : List ℕ → Content → Bool
are_there ids content = list_all (λ id. is_some (node_at content id)) ids

-- the content with each of these objects changed
abbrev pub with_changed : List ℕ → (Node → Node) → Content → Content
with_changed ids change content =
    with_each content (λ node. if list_any (λ id. id == node.id) ids then change node else node)

abbrev pub IsFolderAt : Rows → ℕ → Type 0
IsFolderAt rows id = (node : Node) × (node_at rows.read id ≡ Some node) × IsTrue (is_folder node)

abbrev pub IsDocumentAt : Rows → ℕ → Type 0
IsDocumentAt rows id =
    (node : Node) × (node_at rows.read id ≡ Some node) × IsTrue (is_document node.kind)

-- The object, if it is there, is changed in this way, and nothing else is. The caller has to know
-- that it is there.
abbrev pub Changes : ℕ → (Node → Node) → Rows → Rows → Type 0
Changes id change old new =
    (node : Node) → node_at old.read id ≡ Some node
    → new ≡ with_content old (with_node old.read (change node))

-- Each of these objects, if all are there, is changed in this way, and nothing else is.
abbrev pub ChangesAll : List ℕ → (Node → Node) → Rows → Rows → Type 0
ChangesAll ids change old new =
    IsTrue (are_there ids old.read) → new ≡ with_content old (with_changed ids change old.read)

-- The object has another parent and another name, if that parent is a folder and the name is free
-- there.
abbrev pub Places : ℕ → ℕ → List ℕ → Rows → Rows → Type 0
Places id parent name old new =
    IsFolderAt old parent → child_of old.read parent name ≡ None
    → Changes id (with_place parent name) old new

-- a new object, and the bytes that it gets where it is a document
pub record Addition : Type 0 where
  pub node : NewNode
  pub bytes : List ℕ

abbrev pub with_bytes : NewNode → List ℕ → Addition
with_bytes node bytes = record { node = node; bytes = bytes }

abbrev pub node_of : ℕ → NewNode → Node
node_of id new =
    record {
      id = id;
      parent = new.parent;
      name = new.name;
      kind = new.kind;
      owners = new.owners;
      dacl = new.dacl;
      sacl = new.sacl;
    }

-- with the object, and with the bytes where it is a document
abbrev pub with_new : Content → ℕ → Addition → Content
with_new content id new =
    if is_document new.node.kind
    then with_body (with_node content (node_of id new.node)) id new.bytes
    else with_node content (node_of id new.node)

-- the parent is a folder that is there, and the name is free under it
pub record CanAdd (new : Addition) (rows : Rows) : Type 0 where
  pub parent : ℕ
  pub parent_is : new.node.parent ≡ Some parent
  pub folder : IsFolderAt rows parent
  pub name_is_free : child_of rows.read parent new.node.name ≡ None

-- an object is added with a number that wasn't in use
pub record IsAdded (node : Addition) (old : Rows) (id : ℕ) (new : Rows) : Type 0 where
  pub from_one : 0 < id
  pub is_new : node_at old.read id ≡ None
  pub is_free : is_unreadable old id ≡ false
  pub becomes : new ≡ with_content old (with_new old.read id node)

abbrev pub Adds : Addition → Rows → ℕ → Rows → Type 0
Adds node old id new = CanAdd node old → IsAdded node old id new

-- the object is there, has a parent and has no children
pub record CanRemove (id : ℕ) (rows : Rows) : Type 0 where
  pub node : Node
  pub is_there : node_at rows.read id ≡ Some node
  pub parent : ℕ
  pub has_parent : node.parent ≡ Some parent
  pub no_children : children_of rows.read id ≡ []

-- an object is gone with its bytes
abbrev pub Removes : ℕ → Rows → Rows → Type 0
Removes id old new = CanRemove id old → new ≡ with_content old (without_node old.read id)

-- a document has these bytes
abbrev pub SetsBody : ℕ → List ℕ → Rows → Rows → Type 0
SetsBody id bytes old new =
    IsDocumentAt old id → new ≡ with_content old (with_body old.read id bytes)

-- A record is added after the others, if its place is one: places count from 1.
abbrev pub Notes : AuditRow → Rows → Rows → Type 0
Notes row old new = 0 < row.place → new ≡ with_content old (with_records old.read (row ∷ []))

-- for calls that answer nothing
abbrev pub Leaves : (Rows → Rows → Type 0) → Rows → Unit {0} → Rows → Type 0
Leaves becomes old answer new = becomes old new

-- ---- one call

-- There is an answer, or the rows are at fault. Nothing is said of other faults.
abbrev pub IfSeen : {X : Type 0} → Result X KeepFault → Type 0 → Type 0
IfSeen (Ok x) P = P
IfSeen (Err Memory) P = Unit {0}
IfSeen (Err Store) P = Unit {0}
IfSeen (Err NoRoot) P = P
IfSeen (Err (Damaged id)) P = P

-- What a call that answers Ok wrote is counted.
abbrev pub writes_after : {X : Type 0} → ℕ → Result X KeepFault → ℕ → ℕ
writes_after count (Ok x) before = capped (before + count)
writes_after count (Err fault) before = before

module _ {S : Type 0} (rows : S → Rows) (failures writes : S → ℕ)
    (Follows IsTrusted : S → S → Type 0) where
  -- What holds of the states of a keeper, whatever it is called for: how they follow each other,
  -- how far counts go, and that trust in a span is trust in its parts.
  pub record KeepLaws : Type 0 where
    pub itself : (a : S) → Follows a a
    pub on : (a b c : S) → Follows a b → Follows b c → Follows a c
    pub rise : (a b : S) → Follows a b → failures a ≤ failures b
    pub grow : (a b : S) → Follows a b → writes a ≤ writes b
    pub ends : (a : S) → (failures a ≤ 2 ^ 64 - 1) × (writes a ≤ 2 ^ 64 - 1)
    pub first : (a b c : S) → Follows a b → Follows b c → IsTrusted a c → IsTrusted a b
    pub last : (a b c : S) → Follows a b → Follows b c → IsTrusted a c → IsTrusted b c
    pub are : (a b : S) → IsTrusted a b → AreRows (rows a)

  -- A call that reads, or several of them.
  pub record IsRead {X : Type 0} (old new : S) (result : Result X KeepFault)
      (Blames : Rows → ℕ → Type 0) (Answers : Rows → X → Type 0) : Type 0 where
    pub follows : Follows old new
    pub unwritten : writes new ≡ writes old
    pub same : IsTrusted old new → IfSeen result (rows new ≡ rows old)
    pub answers : IsTrusted old new → IfOk result (Answers (rows old))
    pub unfailed : IfOk result (λ _. failures new ≡ failures old)
    pub fault : IfErr result (HasCause (failures old) (failures new)
        (λ row. IsTrusted old new → Blames (rows old) row))

  -- One call that writes, so many objects or records. After a fault nothing is said of the rows.
  pub record IsWriteOf (count : ℕ) {X : Type 0} (old new : S) (result : Result X KeepFault)
      (Blames : Rows → ℕ → Type 0) (Becomes : Rows → X → Rows → Type 0) : Type 0 where
    pub follows : Follows old new
    pub written : writes new ≡ writes_after count result (writes old)
    pub becomes : IsTrusted old new → IfOk result (λ answer. Becomes (rows old) answer (rows new))
    pub unfailed : IfOk result (λ _. failures new ≡ failures old)
    pub fault : IfErr result (HasCause (failures old) (failures new)
        (λ row. IsTrusted old new → Blames (rows old) row))

  -- One call that writes one of them.
  abbrev pub IsWrite : {X : Type 0} → S → S → Result X KeepFault → (Rows → ℕ → Type 0)
      → (Rows → X → Rows → Type 0) → Type 0
  IsWrite = IsWriteOf 1
