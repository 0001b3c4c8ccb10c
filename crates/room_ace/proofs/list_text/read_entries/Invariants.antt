use Rattle.std.proofs.Common.{◌≡◌, ◌+◌, ◌<◌, ◌^◌, [], length}
use Rattle.room_ace.specs.{Lists.entries_after, Reading.lines_after}
use Rattle.room_ace.proofs.list_text.read_entries.Given as goal

-- the entries so far and the lines that are left give what all the lines give
abbrev pub invariant-loop-line : goal.invariant-loop-line
invariant-loop-line l = record {
  same : entries_after l.entries (lines_after l.lines.passed l.lines.rest.now)
      ≡ entries_after [] (lines_after l.fn.lines.passed l.fn.lines.rest.now);
  fits : l.lines.passed + length l.lines.rest.now < 2 ^ 64;
}

abbrev pub decreases-loop-line : goal.decreases-loop-line
decreases-loop-line l = length l.lines.rest.now
