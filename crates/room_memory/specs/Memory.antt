-- The rows of a keeper in memory, of which each can be read.
use Rattle.std.specs.Prelude.{◌≡◌, ◌≤◌, ◌+◌, ◌^◌, ◌⊎◌, ℕ, not, true, List, [], ◌∷◌, filter, None}
use Rattle.std.specs.Prelude.{Bool, IfErr, IfOk, IfSome, IsTrue, Result, is_some}
use Rattle.std.specs.List.{list_all}
use Rattle.std.specs.declared.alloc.AllocError.{AllocError}
use Rattle.room_entry.specs.Ace.{Ace}
use Rattle.room_entry.specs.declared.object.Which.{Which}
use Rattle.room_entry.specs.declared.object.ObjKind.TheVariants.{Folder}
use Rattle.room_entry.specs.declared.parties.Owners.{Owners}
use Rattle.room_memory.specs.declared.memory.MemKeep.{MemKeep}
use Rattle.room_rows.specs.declared.keep.KeepFault.{KeepFault}
use Rattle.room_rows.specs.declared.keep.KeepFault.TheVariants.{Memory, Store, NoRoot, Damaged}
use Rattle.room_rows.specs.declared.node.AuditRow.{AuditRow}
use Rattle.room_rows.specs.declared.node.NewNode.{NewNode}
use Rattle.room_rows.specs.HeldList.{Held}
use Rattle.room_rows.specs.declared.node.Node.{Node}
use Rattle.room_memory.specs.Pairs.{is_same_pair}
use Rattle.room_rows.specs.Finding.{find_id, find_named}
use Rattle.room_rows.specs.Rows.{Rows, AreRows}
use Rattle.room_memory.specs.Objects.{greatest}
use Rattle.room_rows.specs.Content.{with_members}
use Rattle.room_rows.specs.Keep.{ChangesAll, with_content, with_inh}

abbrev pub memory_rows : List Node → List (ℕ × List ℕ) → List (List ℕ × List ℕ) → List AuditRow
    → Rows
memory_rows nodes bodies members audits =
    record {
      read = record { nodes = nodes; bodies = bodies; members = members; audits = audits };
      unreadable = [];
    }

abbrev pub rows_in : MemKeep → Rows
rows_in keep = memory_rows keep.nodes keep.bodies keep.members keep.notes

-- the root, a folder of number 1
abbrev pub root_node : Owners → Held → Held → Node
root_node owners dacl sacl =
    record {
      id = 1;
      parent = None;
      name = [];
      kind = Folder;
      owners = owners;
      dacl = dacl;
      sacl = sacl;
    }

abbrev pub root_alone : Owners → Held → Held → Rows
root_alone owners dacl sacl = memory_rows (root_node owners dacl sacl ∷ []) [] [] []

-- The pairs are replaced by these, and nothing else has changed. Rows stay rows.
pub record HasMembers (pairs : List (List ℕ × List ℕ)) (old new : MemKeep) : Type 0 where
  pub rows : rows_in new ≡ with_content (rows_in old) (with_members (rows_in old).read pairs)
  pub failures : new.failures ≡ old.failures
  pub writes : new.writes ≡ old.writes
  pub stay_rows : AreRows (rows_in old) → AreRows (rows_in new)

abbrev pub without_pair : List ℕ × List ℕ → List (List ℕ × List ℕ) → List (List ℕ × List ℕ)
without_pair pair pairs = filter (λ other. not (is_same_pair pair other)) pairs

-- ---- what calls fail for

-- A call that reads changes nothing, and its only error is out of memory.
abbrev pub ReadsAlone : {X : Type 0} → MemKeep → MemKeep → Result X KeepFault → Type 0
ReadsAlone old new result = (new ≡ old) × IfErr result (λ fault. fault ≡ Memory)

-- The call for the root also fails where there is no root.
abbrev pub ReadsRoot : MemKeep → MemKeep → Result Node KeepFault → Type 0
ReadsRoot old new result =
    (new ≡ old) × IfErr result (λ fault. (fault ≡ Memory) ⊎ (fault ≡ NoRoot))

-- out of memory, or `Store` for what can't be done
abbrev pub FailsBy : Type 0 → KeepFault → Type 0
FailsBy Cannot Memory = Unit {0}
FailsBy Cannot Store = Cannot
FailsBy Cannot NoRoot = ⊥
FailsBy Cannot (Damaged id) = ⊥

-- an object stands under the parent by this name
abbrev pub HasChildNamed : ℕ → List ℕ → List Node → Type 0
HasChildNamed parent name nodes = is_some (find_named parent name nodes) ≡ true

-- no number is left, or there is no parent, or the name is taken
abbrev pub CannotAdd : NewNode → List Node → Type 0
CannotAdd node nodes =
    (2 ^ 64 ≤ greatest nodes + 1)
    ⊎ IfSome node.parent (λ parent. HasChildNamed parent node.name nodes)

-- Where no number is left, the error is `Store`, and never out of memory.
abbrev pub StoreWhereFull : List Node → KeepFault → Type 0
StoreWhereFull nodes fault = 2 ^ 64 ≤ greatest nodes + 1 → fault ≡ Store

-- the object isn't there, or the name is taken
abbrev pub CannotPlace : ℕ → ℕ → List ℕ → List Node → Type 0
CannotPlace id parent name nodes = (find_id id nodes ≡ None) ⊎ HasChildNamed parent name nodes

-- ---- inherited entries of many objects

-- these objects are there
abbrev pub are_found : List ℕ → List Node → Bool
are_found ids nodes = list_all (λ id. is_some (find_id id nodes)) ids

-- whatever else a keeper has, rows stay rows
abbrev pub StayRows : List Node → List Node → Type 0
StayRows old new = (bodies : List (ℕ × List ℕ)) (members : List (List ℕ × List ℕ))
    (audits : List AuditRow) → AreRows (memory_rows old bodies members audits)
    → AreRows (memory_rows new bodies members audits)

abbrev pub Changed : List ℕ → (Node → Node) → List Node → List Node → Type 0
Changed ids change old new = (bodies : List (ℕ × List ℕ)) (members : List (List ℕ × List ℕ))
    (audits : List AuditRow) → AreRows (memory_rows old bodies members audits)
    → ChangesAll ids change (memory_rows old bodies members audits)
    (memory_rows new bodies members audits)

-- The answer is whether all of these objects are there. If so, each has these inherited entries.
-- No object is new, and none is gone.
pub record Inherits (ids : List ℕ) (which : Which) (entries : List Ace) (old new : List Node)
    (result : Result Bool AllocError) : Type 0 where
  pub rows : StayRows old new
  pub same : (id : ℕ) → is_some (find_id id new) ≡ is_some (find_id id old)
  pub found : IfOk result (λ all. all ≡ are_found ids old)
  pub changed : IfOk result (λ all. IsTrue all → Changed ids (with_inh which entries) old new)
