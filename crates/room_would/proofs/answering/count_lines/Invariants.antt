use Rattle.std.proofs.Common.{◌≡◌, ◌+◌, ◌≤◌, length}
use Rattle.room_ace.specs.Lists.{lines_of}
use Rattle.room_would.proofs.answering.count_lines.Given as goal

-- the lines so far are counted, of which each has a byte
abbrev pub invariant-loop-behind : goal.invariant-loop-behind
invariant-loop-behind l = record {
  count : l.count + length (lines_of l.rest) ≡ length (lines_of l.bytes);
  few : l.count + length l.rest ≤ length l.bytes;
}

abbrev pub decreases-loop-behind : goal.decreases-loop-behind
decreases-loop-behind l = length l.rest
