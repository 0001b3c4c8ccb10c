use Rattle.std.proofs.Common.{◌≡◌, length}
use Rattle.room_ace.specs.{Lists.lines_of, Column.{entries_behind, entries_of}}
use Rattle.room_ace.proofs.entry_lines.read_entries.Given as goal

-- the entries so far and the lines that are left give what all of them give
abbrev pub invariant-loop-line : goal.invariant-loop-line
invariant-loop-line l = entries_behind l.entries (lines_of l.rest) ≡ entries_of l.fn.bytes

abbrev pub decreases-loop-line : goal.decreases-loop-line
decreases-loop-line l = length l.rest
