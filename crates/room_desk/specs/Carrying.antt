-- A change of a list carried down, as part of a request.
use Rattle.std.specs.Prelude.{◌≡◌, ℕ, ◌⊎◌, Bool, true, false, ◌∷◌, Some, map, IsTrue}
use Rattle.room_entry.specs.declared.object.Which.{Which}
use Rattle.room_rows.specs.declared.keep.KeepFault.{KeepFault}
use Rattle.room_rows.specs.declared.keep.KeepFault.TheVariants.{Damaged}
use Rattle.room_rows.specs.Content.{is_rising, node_at, reaches_root}
use Rattle.room_rows.specs.declared.node.Node.{Node}
use Rattle.room_rows.specs.Keep.{IsUnreadable}
use Rattle.room_rows.specs.Rows.{Rows}
use Rattle.room_inherit.specs.Spread.{Holds, IsOwnAncestor, IsSpread}
use Rattle.room_inherit.specs.declared.outcome.SpreadFault.{SpreadFault}
use Rattle.room_inherit.specs.declared.outcome.SpreadFault.TheVariants.{Keeper, Loop}

-- what became of the lists below
abbrev pub IsCarriedDown : Which → ℕ → Rows → Unit {0} → Rows → Type 0
IsCarriedDown which id old answer new = (changed : ℕ) × IsSpread which id old new changed

-- a row that can't be read, or this object, where it is its own ancestor
abbrev pub HasLoop : ℕ → Rows → ℕ → Type 0
HasLoop id rows row = IsUnreadable rows row ⊎ ((row ≡ id) × IsOwnAncestor rows.read id)

-- the same from an object, if it stands so in the rows
abbrev pub IsCarriedFrom : Which → Node → Rows → Unit {0} → Rows → Type 0
IsCarriedFrom which start old answer new =
    Holds start old → IsCarriedDown which start.id old answer new

abbrev pub HasLoopFrom : Node → Rows → ℕ → Type 0
HasLoopFrom start rows row = Holds start rows → HasLoop start.id rows row

-- the object is there, and its parents lead to the root
pub record IsRooted (id : ℕ) (rows : Rows) : Type 0 where
  pub rises : IsTrue (is_rising (0 ∷ map (λ node. node.id) rows.read.nodes))
  pub node : Node
  pub there : node_at rows.read id ≡ Some node
  pub steps : ℕ
  pub reaches : reaches_root steps rows.read node.parent ≡ true

-- it stands so in the rows, and is rooted
abbrev pub StandsRooted : Node → Rows → Type 0
StandsRooted node rows = Holds node rows × IsRooted node.id rows

-- only a row that can't be read, where the object is rooted
abbrev pub IsUnreadableIfRooted : ℕ → Rows → ℕ → Type 0
IsUnreadableIfRooted id rows row = IsRooted id rows → IsUnreadable rows row

-- the same, where the object also stands so in the rows
abbrev pub IsUnreadableIfHeld : Node → Rows → ℕ → Type 0
IsUnreadableIfHeld node rows row = Holds node rows → IsUnreadableIfRooted node.id rows row

-- it is as it was, or what changed was carried down
abbrev pub GoesDown : Bool → Which → ℕ → Rows → Rows → Type 0
GoesDown false which id mid new = new ≡ mid
GoesDown true which id mid new = IsCarriedDown which id mid tt new

abbrev pub keeper_fault : ℕ → SpreadFault → KeepFault
keeper_fault id (Keeper fault) = fault
keeper_fault id Loop = Damaged id
