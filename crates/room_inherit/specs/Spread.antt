-- How a change of a list is carried down to the stored lists below it (RFC 8881, section 6.4.3).
use Rattle.std.specs.Prelude.{◌≡◌, ℕ, zero, suc, ◌+◌, ◌-◌, ◌*◌, ◌^◌, ◌<◌, ◌≤◌, ◌&&◌, ◌||◌, Bool}
use Rattle.std.specs.Prelude.{false, not, List, Some, Result, IfOk, IfErr, IsTrue, count_by}
use Rattle.std.specs.List.{list_all}
use Rattle.std.specs.Option.{option_map_or}
use Rattle.room_entry.specs.Ace.{Ace}
use Rattle.room_entry.specs.Same.{same_entries}
use Rattle.room_entry.specs.declared.object.Which.{Which}
use Rattle.room_rows.specs.declared.keep.Keep.{Ghosts}
use Rattle.room_rows.specs.declared.node.Node.{Node}
use Rattle.room_rows.specs.Content.{Content, node_at, parent_of, has_parent}
use Rattle.room_rows.specs.Content.{is_linked_in, with_each}
use Rattle.room_rows.specs.Held.{held_of}
use Rattle.room_rows.specs.Keep.{HasCause, IsUnreadable, capped, with_content, with_inh}
use Rattle.room_rows.specs.Rows.{Rows}
use Rattle.room_rows.specs.Law.{AllAgree, AllAgreeBut, agrees}
use Rattle.room_inherit.specs.declared.outcome.Spread.{Spread}
use Rattle.room_inherit.specs.declared.outcome.SpreadFault.{SpreadFault}
use Rattle.room_inherit.specs.declared.outcome.SpreadFault.TheVariants.{Keeper, Loop}

-- ---- below an object

-- at most n steps below the object of this number
abbrev pub is_within : ℕ → Content → ℕ → Node → Bool
is_within zero rows id node = false
is_within (suc n) rows id node =
    has_parent id node || option_map_or (is_within n rows id) (parent_of rows node) false

abbrev pub IsBelow : Content → ℕ → Node → Type 0
IsBelow rows id node = (n : ℕ) × IsTrue (is_within n rows id node)

-- an object that is below itself
abbrev pub IsOwnAncestor : Content → ℕ → Type 0
IsOwnAncestor rows id = (node : Node) × (node_at rows id ≡ Some node) × IsBelow rows id node

-- the same through linked objects alone
abbrev pub is_linked_within : ℕ → Content → Which → ℕ → Node → Bool
is_linked_within zero rows which id node = false
is_linked_within (suc n) rows which id node =
    is_linked_in rows which node && (has_parent id node
    || option_map_or (is_linked_within n rows which id) (parent_of rows node) false)

abbrev pub IsLinkedBelow : Content → Which → ℕ → Node → Type 0
IsLinkedBelow rows which id node = (n : ℕ) × IsTrue (is_linked_within n rows which id node)

-- ---- what is different afterwards

-- each object with these inherited entries, and else as it was
abbrev pub with_lists : Which → (Node → List Ace) → Content → Content
with_lists which lists content = with_each content (λ node. with_inh which (lists node) node)

-- the object gets a list that it didn't have
abbrev pub is_changed : Which → (Node → List Ace) → Node → Bool
is_changed which lists node = not (same_entries (lists node) (held_of which node).inh)

-- the object stores the inherited entries that it did
abbrev pub stores_as_before : Content → Which → Node → Bool
stores_as_before old which node =
    option_map_or (λ before. same_entries (held_of which node).inh (held_of which before).inh)
    (node_at old node.id) false

-- Each object that stores other inherited entries than before agrees with its parent.
abbrev pub ChangedAgree : Which → Content → Content → Type 0
ChangedAgree which old new =
    IsTrue (list_all (λ node. stores_as_before old which node || agrees new which node) new.nodes)

-- The rows are as they were but for inherited entries of this attribute at objects that are linked
-- below this one. This many of them are different now, and agree with their parents. If the law
-- held but for the object's children, it holds.
pub record IsSpread (which : Which) (id : ℕ) (old new : Rows) (changed : ℕ) : Type 0 where
  pub lists : Node → List Ace
  pub becomes : new ≡ with_content old (with_lists which lists old.read)
  pub below : (node : Node) → node_at old.read node.id ≡ Some node
      → IsTrue (is_changed which lists node) → IsLinkedBelow old.read which id node
  pub counted : changed ≡ count_by (is_changed which lists) old.read.nodes
  pub agree : ChangedAgree which old.read new.read
  pub law : AllAgreeBut old.read which id → AllAgree new.read which

-- ---- why there is no answer

-- A fault of the keeper has that call's cause. `Loop` comes where there is a loop.
abbrev pub HasSpreadCause : ℕ → ℕ → (ℕ → Type 0) → Type 0 → SpreadFault → Type 0
HasSpreadCause before after damaged loops (Keeper fault) = HasCause before after damaged fault
HasSpreadCause before after damaged loops Loop = loops

-- ---- calls that read and write lists

module _ {S : Type 0} (rows : S → Rows) (failures writes : S → ℕ)
    (Follows IsTrusted : S → S → Type 0) where
  -- As long as the keeper answers by its rows: an answer says what became of them and how many
  -- writes there were, and a fault blames a row that can't be read or a loop.
  pub record IsCarried {X : Type 0} (count : X → ℕ) (old new : S) (result : Result X SpreadFault)
      (Loops : Rows → Type 0) (Becomes : Rows → X → Rows → Type 0) : Type 0 where
    pub follows : Follows old new
    pub written : IfOk result (λ answer. writes new ≡ capped (writes old + count answer))
    pub becomes : IsTrusted old new → IfOk result (λ answer. Becomes (rows old) answer (rows new))
    pub fault : IfErr result (HasSpreadCause (failures old) (failures new)
        (λ row. IsTrusted old new → IsUnreadable (rows old) row)
        (IsTrusted old new → Loops (rows old)))

-- ---- with the keeper named once

module _ {S : Type 0} (k : Ghosts S) (old new : S) where
  -- The result of calls that carry lists down, where the keeper answers by its rows.
  abbrev pub Carries : {X : Type 0} → (X → ℕ) → Result X SpreadFault → (Rows → Type 0)
      → (Rows → X → Rows → Type 0) → Type 0
  Carries count result Loops Becomes =
      IsCarried k.rows k.failures k.writes k.Follows k.IsTrusted count old new result Loops Becomes

  -- The same where the rows meet a condition before. The caller has to know that they do.
  abbrev pub CarriesIf : {X : Type 0} → (Rows → Type 0) → (X → ℕ) → Result X SpreadFault
      → (Rows → Type 0) → (Rows → X → Rows → Type 0) → Type 0
  CarriesIf Given count result Loops Becomes =
      IsCarried k.rows k.failures k.writes k.Follows
      (λ first last. k.IsTrusted first last × Given (k.rows first))
      count old new result Loops Becomes

  -- A change of this object's list is carried down.
  abbrev pub SpreadsIf : (Rows → Type 0) → Which → ℕ → Result Spread SpreadFault → Type 0
  SpreadsIf Given which id result =
      CarriesIf Given (λ (spread : Spread). spread.changed) result
      (λ rows. IsOwnAncestor rows.read id)
      (λ first spread last. IsSpread which id first last spread.changed)

  abbrev pub Spreads : Which → ℕ → Result Spread SpreadFault → Type 0
  Spreads which id result =
      Carries (λ (spread : Spread). spread.changed) result
      (λ rows. IsOwnAncestor rows.read id)
      (λ first spread last. IsSpread which id first last spread.changed)

  -- So many calls that read, and two for each list that was written, are all that there were,
  -- unless the count of written lists is at its end.
  abbrev pub ReadsForLists : ℕ → Result Spread SpreadFault → Type 0
  ReadsForLists more result =
      IfOk result (λ spread. spread.changed < 2 ^ 64 - 1
      → k.reads new ≤ k.reads old + (2 * spread.changed + more))

-- the object stands in the rows
abbrev pub Holds : Node → Rows → Type 0
Holds node rows = node_at rows.read node.id ≡ Some node
