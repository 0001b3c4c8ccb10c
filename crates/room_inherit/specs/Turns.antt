-- Turns of carrying lists down, one after the other.
use Rattle.std.specs.Prelude.{◌≡◌, ℕ, zero, suc, ◌+◌, ◌≤◌, ◌⊎◌, List, [], ◌∷◌, ◌++◌}
use Rattle.std.specs.Prelude.{Result, Ok, Err}
use Rattle.room_entry.specs.declared.object.Which.{Which}
use Rattle.room_rows.specs.declared.keep.Keep.{Ghosts}
use Rattle.room_rows.specs.declared.node.Node.{Node}
use Rattle.room_rows.specs.Keep.{capped}
use Rattle.room_inherit.specs.Spread.{Holds, SpreadsIf}
use Rattle.room_inherit.specs.SpreadAll.{IsRoot, SweepsIf}
use Rattle.room_inherit.specs.Turn.{Visits}
use Rattle.room_inherit.specs.declared.descent.Descent.{Descent}
use Rattle.room_inherit.specs.declared.descent.Reach.{Reach}
use Rattle.room_inherit.specs.declared.descent.Reach.TheVariants.{Renewed, All}
use Rattle.room_inherit.specs.declared.outcome.Spread.{Spread}
use Rattle.room_inherit.specs.declared.outcome.SpreadFault.{SpreadFault}

module _ {S : Type 0} (k : Ghosts S) (descent : Descent) where
  -- n turns, in each of which the last of the objects that wait is visited: these wait before and
  -- after, and this many lists are written.
  abbrev pub AreTurns : ℕ → List Node → List Node → ℕ → S → S → Type 0
  AreTurns zero before after written old new =
      (before ≡ after) × (written ≡ 0) × (old ≡ new)
  AreTurns (suc turns) before after written old new =
      (rest : List Node) × (above : Node) × (sofar : ℕ) × (number : ℕ) × (mid : S)
      × AreTurns turns before (rest ++ above ∷ []) sofar old mid
      × Visits k mid new descent above rest after (Ok number)
      × (written ≡ sofar + number)

  -- at most this many turns, and exactly as many where some still wait
  pub record Took (most : ℕ) (before after : List Node) (written : ℕ) (old new : S) : Type 0 where
    pub turns : ℕ
    pub total : ℕ
    pub are : AreTurns turns before after total old new
    pub counted : written ≡ capped total
    pub bounded : turns ≤ most
    pub ends : (after ≡ []) ⊎ (most ≤ turns)

  -- some turns, and one that failed
  pub record Broke (before after : List Node) (fault : SpreadFault) (old new : S) : Type 0 where
    pub turns : ℕ
    pub total : ℕ
    pub rest : List Node
    pub above : Node
    pub mid : S
    pub are : AreTurns turns before (rest ++ above ∷ []) total old mid
    pub fails : Visits k mid new descent above rest after (Err fault)

  -- Turns are taken until none waits, or up to a bound.
  abbrev pub TakesTurns : ℕ → List Node → List Node → S → S → Result ℕ SpreadFault → Type 0
  TakesTurns most before after old new (Ok written) = Took most before after written old new
  TakesTurns most before after old new (Err fault) = Broke before after fault old new

-- What is carried down from an object that was read: a change of its list to those that it
-- renews, or, from the root, all lists to all folders.
module _ {S : Type 0} (k : Ghosts S) (old new : S) where
  abbrev pub Descends : Reach → Node → Which → Result Spread SpreadFault → Type 0
  Descends Renewed start which result = SpreadsIf k old new (Holds start) which start.id result
  Descends All start which result = SweepsIf k old new (IsRoot start) which result
