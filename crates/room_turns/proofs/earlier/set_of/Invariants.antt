use Rattle.std.{proofs.Common.{◌≡◌, ℕ, nat_eq, take}, specs.HashSet.contains}
use Rattle.room_entry.specs.Pieces.{is_among}
use Rattle.room_turns.proofs.earlier.set_of.Given as goal

-- the first of the numbers are in the set
abbrev pub invariant-loop-number : goal.invariant-loop-number
invariant-loop-number l =
    (number : ℕ) → contains nat_eq l.set number ≡ is_among (take l.number-index l.numbers) number
