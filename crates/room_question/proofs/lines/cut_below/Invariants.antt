use Rattle.std.proofs.Common.{length}
use Rattle.room_question.proofs.Cutting.{IsOnTheWay}
use Rattle.room_question.proofs.lines.cut_below.Given as goal

abbrev pub invariant-loop-line : goal.invariant-loop-line
invariant-loop-line l = IsOnTheWay l.bytes l.count l.rest

abbrev pub decreases-loop-line : goal.decreases-loop-line
decreases-loop-line l = length l.rest
