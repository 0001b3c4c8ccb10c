-- What a call that takes memory answers, against what it is defined to answer.
use Rattle.std.specs.Prelude.{◌≡◌, Result, Ok, Err}
use Rattle.room_entry.specs.declared.failure.Failure.{Failure}
use Rattle.room_entry.specs.declared.failure.Failure.TheVariants.{OutOfMemory, Fault}

-- The call answers what is defined, by a view of its value, unless memory ran out.
abbrev pub GivesBy : {A B F : Type 0} → (A → B) → Result A (Failure F) → Result B F → Type 0
GivesBy view (Ok value) defined = defined ≡ Ok (view value)
GivesBy view (Err OutOfMemory) defined = Unit {0}
GivesBy view (Err (Fault fault)) defined = defined ≡ Err fault
