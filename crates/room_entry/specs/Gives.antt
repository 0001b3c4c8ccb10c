-- What a call that takes memory answers, against what it is defined to answer.
use Rattle.std.specs.Prelude.{◌≡◌, Result, Ok, Err}
use Rattle.room_entry.specs.declared.failure.Failure.{Failure}
use Rattle.room_entry.specs.declared.failure.Failure.TheVariants.{OutOfMemory, Fault}

-- The call answers what is defined, unless memory ran out.
abbrev pub Gives : {A F : Type 0} → Result A (Failure F) → Result A F → Type 0
Gives (Ok value) defined = defined ≡ Ok value
Gives (Err OutOfMemory) defined = Unit {0}
Gives (Err (Fault fault)) defined = defined ≡ Err fault

-- a result with its fault mapped
abbrev pub told : {A E F : Type 0} → (E → F) → Result A E → Result A F
told words (Ok value) = Ok value
told words (Err fault) = Err (words fault)

-- The same answer, where a fault becomes another.
abbrev pub TurnsFault : {A E F : Type 0} → (E → F → Type 0) → Result A (Failure E)
    → Result A (Failure F) → Type 0
TurnsFault Becomes (Ok value) result = result ≡ Ok value
TurnsFault Becomes (Err OutOfMemory) result = result ≡ Err OutOfMemory
TurnsFault {F = F} Becomes (Err (Fault fault)) result =
    (other : F) × Becomes fault other × (result ≡ Err (Fault other))
