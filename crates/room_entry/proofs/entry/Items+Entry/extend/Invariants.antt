use Rattle.std.proofs.Common.{◌≡◌, ◌++◌, take}
use Rattle.room_entry.proofs.entry.Items+Entry.extend.Given as goal

abbrev pub invariant-loop-entry : goal.invariant-loop-entry
invariant-loop-entry l = l.self ≡ l.fn.self ++ take l.entry-index l.entries
