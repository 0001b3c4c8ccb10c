use Rattle.std.{proofs.Common.{◌≡◌, ◌++◌, List, length, nat_eq, ℕ}, specs.HashMap.get}
use Rattle.room_turns.specs.{Stands.spot_in, declared.spot.Told.Told}
use Rattle.room_turns.proofs.earlier.by_number.Given as goal

-- the last of the objects are in the table
abbrev pub invariant-objects : goal.invariant-objects
invariant-objects l =
    (done : List Told) × (l.fn.objects.items ≡ l.rest.items ++ done)
    × ((number : ℕ) → get nat_eq l.table number ≡ spot_in done number)

abbrev pub decreases-objects : goal.decreases-objects
decreases-objects l = length l.rest.items
