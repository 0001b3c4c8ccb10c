use Rattle.std.proofs.{Common.{ap, sym, ◌∙◌, eq-eqb}, lemmas.Bool.{cond-true, cond-false, ne_eqb}}
use Rattle.room_ace.{specs.Lists.without_return, proofs.FirstLine.without_return-push}
use Rattle.room_ace.proofs.lines.without_return.Goals as goal

pub returns-then-last-eq13 : goal.returns-then-last-eq13
returns-then-last-eq13 c =
    sym (ap without_return c.in-Some.ensures.cases.0
    ∙ without_return-push c.in-Some.front.now c.in-Some.last.now
    ∙ cond-true _ _ _ (eq-eqb _ _ c.if-last-eq13.true))

pub returns-else-last-eq13 : goal.returns-else-last-eq13
returns-else-last-eq13 c =
    sym (ap without_return c.in-Some.ensures.cases.0
    ∙ without_return-push c.in-Some.front.now c.in-Some.last.now
    ∙ cond-false _ _ _ (ne_eqb _ _ c.if-last-eq13.false) ∙ sym c.in-Some.ensures.cases.0)
