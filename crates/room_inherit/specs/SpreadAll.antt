-- All lists carried down from the root (RFC 8881, section 6.4.3).
use Rattle.std.specs.Prelude.{◌≡◌, ℕ, ◌+◌, ◌<◌, ◌^◌, List, Some, None, Result, IfOk, IfErr, IsTrue}
use Rattle.std.specs.Prelude.{filter, length, count_by}
use Rattle.std.specs.List.{list_all}
use Rattle.room_entry.specs.Ace.{Ace}
use Rattle.room_entry.specs.declared.object.Which.{Which}
use Rattle.room_entry.specs.declared.object.Which.TheVariants.{Dacl, Sacl}
use Rattle.room_rows.specs.declared.keep.Keep.{Ghosts}
use Rattle.room_rows.specs.declared.node.Node.{Node}
use Rattle.room_rows.specs.Content.{Content, node_at, root_of, has_folder_above, is_linked_in}
use Rattle.room_rows.specs.Content.{is_root, reaches_root, with_each}
use Rattle.room_rows.specs.Keep.{HasNoRoot, capped, with_content, with_inh}
use Rattle.room_rows.specs.Rows.{Rows}
use Rattle.room_rows.specs.Law.{AllAgree}
use Rattle.room_rows.specs.Sound.{first_fault}
use Rattle.room_inherit.specs.Spread.{CarriesIf, ChangedAgree, HasSpreadCause, is_changed}
use Rattle.room_inherit.specs.Spread.{with_lists}
use Rattle.room_inherit.specs.declared.outcome.Spread.{Spread}
use Rattle.room_inherit.specs.declared.outcome.SpreadFault.{SpreadFault}

-- One object has no parent, each other one stands in a folder, and the parents of each lead to it.
pub record IsTree (rows : Content) : Type 0 where
  pub one_root : length (filter is_root rows.nodes) ≡ 1
  pub folders : IsTrue (list_all (has_folder_above rows) rows.nodes)
  pub connected :
      IsTrue (list_all (λ node. reaches_root (length rows.nodes) rows node.parent) rows.nodes)

-- The rows are as they were but for inherited entries of this attribute at linked objects. This
-- many of them are different now, fewer than 2 ^ 63, and agree with their parents. In a tree the
-- law holds.
pub record IsSwept (which : Which) (old new : Rows) (changed : ℕ) : Type 0 where
  pub lists : Node → List Ace
  pub becomes : new ≡ with_content old (with_lists which lists old.read)
  pub linked : (node : Node) → node_at old.read node.id ≡ Some node
      → IsTrue (is_changed which lists node) → IsTrue (is_linked_in old.read which node)
  pub counted : changed ≡ count_by (is_changed which lists) old.read.nodes
  pub few : changed < 2 ^ 63
  pub agree : ChangedAgree which old.read new.read
  pub law : IsTree old.read → AllAgree new.read which

-- each object with these inherited entries of both lists, and else as it was
abbrev pub with_both : (Node → List Ace) → (Node → List Ace) → Content → Content
with_both dacls sacls content =
    with_each content (λ node. with_inh Sacl (sacls node) (with_inh Dacl (dacls node) node))

-- The rows are as they were but for inherited entries at linked objects. This many lists are
-- different now and agree with the parents'. Where the first six tests of all rows found no fault,
-- the law of both holds, and so it does in any other tree.
pub record IsSpreadAll (old new : Rows) (changed : ℕ) : Type 0 where
  pub dacls : Node → List Ace
  pub sacls : Node → List Ace
  pub becomes : new ≡ with_content old (with_both dacls sacls old.read)
  pub linked_dacls : (node : Node) → node_at old.read node.id ≡ Some node
      → IsTrue (is_changed Dacl dacls node) → IsTrue (is_linked_in old.read Dacl node)
  pub linked_sacls : (node : Node) → node_at old.read node.id ≡ Some node
      → IsTrue (is_changed Sacl sacls node) → IsTrue (is_linked_in old.read Sacl node)
  pub counted : changed
      ≡ count_by (is_changed Dacl dacls) old.read.nodes
      + count_by (is_changed Sacl sacls) old.read.nodes
  pub agree : (which : Which) → ChangedAgree which old.read new.read
  pub law : first_fault old ≡ None → (which : Which) → AllAgree new.read which
  pub in_tree : IsTree old.read → (which : Which) → AllAgree new.read which

module _ {S : Type 0} (rows : S → Rows) (failures writes : S → ℕ)
    (Follows IsTrusted : S → S → Type 0) where
  -- As long as the keeper answers by its rows: an answer says what became of them and how many
  -- writes there were, and a fault blames a row that can't be read or a missing root. There is
  -- never a loop.
  pub record IsCarriedDown {X : Type 0} (count : X → ℕ) (old new : S)
      (result : Result X SpreadFault) (Becomes : Rows → X → Rows → Type 0) : Type 0 where
    pub follows : Follows old new
    pub written : IfOk result (λ answer. writes new ≡ capped (writes old + count answer))
    pub becomes : IsTrusted old new → IfOk result (λ answer. Becomes (rows old) answer (rows new))
    pub fault : IfErr result (HasSpreadCause (failures old) (failures new)
        (λ row. IsTrusted old new → HasNoRoot (rows old) row) (IsTrusted old new → ⊥))

module _ {S : Type 0} (k : Ghosts S) (old new : S) where
  -- All lists are carried down.
  abbrev pub SpreadsAll : Result Spread SpreadFault → Type 0
  SpreadsAll result =
      IsCarriedDown k.rows k.failures k.writes k.Follows k.IsTrusted
      (λ (spread : Spread). spread.changed) old new result
      (λ first spread last. IsSpreadAll first last spread.changed)

  -- All lists of one attribute are carried down.
  abbrev pub Sweeps : Which → Result Spread SpreadFault → Type 0
  Sweeps which result =
      IsCarriedDown k.rows k.failures k.writes k.Follows k.IsTrusted
      (λ (spread : Spread). spread.changed) old new result
      (λ first spread last. IsSwept which first last spread.changed)

  -- The same where the rows meet a condition before. The caller has to know that they do.
  abbrev pub SweepsIf : (Rows → Type 0) → Which → Result Spread SpreadFault → Type 0
  SweepsIf Given which result =
      CarriesIf k old new Given (λ (spread : Spread). spread.changed) result (λ _. ⊥)
      (λ first spread last. IsSwept which first last spread.changed)

-- the object is the root of the rows
abbrev pub IsRoot : Node → Rows → Type 0
IsRoot node rows = root_of rows.read ≡ Some node
