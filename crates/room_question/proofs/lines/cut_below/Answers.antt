use Rattle.std.proofs.Common.{sym, ◌∙◌}
use Rattle.room_question.proofs.Cutting.{one_more}
use Rattle.room_question.proofs.lines.cut_below.Goals as goal

pub loop-line-preserved : goal.loop-line-preserved
loop-line-preserved c =
    one_more _ _ _ c.in-Some.line.now c.in-Some.behind.now c.loop-line.invariant
    c.in-Some.ensures.0 c.in-Some.ensures.2
    (sym c.belongs_above.ensures ∙ c.if-not-belongs_above.false)
