use Rattle.std.proofs.Common.{◌≡◌, ◌+◌, ◌≤◌, length}
use Rattle.room_ace.specs.Lists.{lines_of}
use Rattle.room_question.specs.{Items.items_from, Reading.{nothing_said, question_from}}
use Rattle.room_question.proofs.reading.read_items.Given as goal

-- what is said so far and the lines that are left give what all the lines give
abbrev pub invariant-loop-item : goal.invariant-loop-item
invariant-loop-item l = record {
  same : question_from l.draft (items_from (l.lines.passed + 1) (lines_of l.lines.rest.now))
      ≡ question_from nothing_said (items_from 1 (lines_of l.bytes));
  fits : l.lines.passed + length l.lines.rest.now ≤ 4194304;
}

abbrev pub decreases-loop-item : goal.decreases-loop-item
decreases-loop-item l = length l.lines.rest.now
