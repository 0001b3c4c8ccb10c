use Rattle.std.proofs.Common.{◌≡◌, ◌+◌, ◌≤◌, length}
use Rattle.room_ace.specs.{Lists.lines_of, Reading.lines_after}
use Rattle.room_ace.proofs.list_lines.ListLines.next_line.Given as goal

-- the lines that are passed over say nothing, and each is counted
abbrev pub invariant-loop-line : goal.invariant-loop-line
invariant-loop-line l = record {
  same : lines_after l.self.passed l.self.rest.now
      ≡ lines_after l.fn.self.passed l.fn.self.rest.now;
  all : l.self.passed + length (lines_of l.self.rest.now)
      ≡ l.fn.self.passed + length (lines_of l.fn.self.rest.now);
  shorter : length l.self.rest.now ≤ length l.fn.self.rest.now;
  bound : l.self.passed + length l.self.rest.now ≤ l.fn.self.passed + length l.fn.self.rest.now;
}

abbrev pub decreases-loop-line : goal.decreases-loop-line
decreases-loop-line l = length l.self.rest.now
