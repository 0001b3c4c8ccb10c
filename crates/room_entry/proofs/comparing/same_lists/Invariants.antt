use Rattle.std.proofs.Common.{◌≡◌, drop}
use Rattle.room_entry.specs.Same.{same_entries}
use Rattle.room_entry.proofs.comparing.same_lists.Given as goal

-- what is left has the same answer
abbrev pub invariant-places : goal.invariant-places
invariant-places l =
    same_entries (drop l.i l.entries) (drop l.i l.others) ≡ same_entries l.entries l.others
