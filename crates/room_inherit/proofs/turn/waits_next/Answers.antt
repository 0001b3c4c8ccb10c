use Rattle.std.proofs.Common.{sym, ◌∙◌}
use Rattle.room_inherit.proofs.Gathered.{told_below, told_none}
use Rattle.room_inherit.proofs.turn.waits_next.Goals as goal

pub returns-then-waits-clause-asked : goal.returns-then-waits-clause-asked
returns-then-waits-clause-asked g c = λ which above is.
    told_below g.K.Keep c.args.keep.now c.may_have_below.new.keep c.args.reach.now which above
    c.args.child.now c.may_have_below.result
    (sym c.if-waits.true ∙ c.may_wait-waits.ensures.told which above is)
    c.may_have_below.ensures.asked

pub returns-clause-asked : goal.returns-clause-asked
returns-clause-asked g c = λ which above is.
    told_none g.K.Keep g.met.K.Keep.laws c.args.keep.now c.args.reach.now which above
    c.args.child.now (sym c.if-waits.false ∙ c.may_wait-waits.ensures.told which above is)
