use Rattle.std.proofs.Common.{◌≡◌, ◌++◌, take}
use Rattle.room_rows.specs.Rows.{AreRows}
use Rattle.room_memory.specs.Memory.{rows_in}
use Rattle.room_would.specs.Lists.{lists_at}
use Rattle.room_would.proofs.lists.push_lists.Given as goal

-- the lists of the first changes are there
abbrev pub invariant-changes : goal.invariant-changes
invariant-changes l = AreRows (rows_in l.fn.keep) → (rows_in l.keep ≡ rows_in l.fn.keep)
    × (l.answer ≡ l.fn.answer
    ++ lists_at (rows_in l.fn.keep) l.unknown (take l.change-index l.changes))
