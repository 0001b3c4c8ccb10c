use Rattle.std.proofs.Common.{◌≡◌, ◌+◌, drop}
use Rattle.room_entry.specs.Valid.{first_bad_entry}
use Rattle.room_entry.proofs.validity.first_bad_entry.Given as goal

-- the first of the rest is the first of all
abbrev pub invariant-loop-index : goal.invariant-loop-index
invariant-loop-index l =
    first_bad_entry 1 l.which l.kind l.entries
    ≡ first_bad_entry (l.index + 1) l.which l.kind (drop l.index l.entries)
