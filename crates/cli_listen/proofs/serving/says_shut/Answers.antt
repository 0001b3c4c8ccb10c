use Rattle.std.proofs.Common.{rules, inr}
use Rattle.cli_listen.proofs.Staying.{rests, tells}
use Rattle.cli_listen.proofs.serving.says_shut.Goals as goal

pub returns-in-Ok-clause-rests : goal.returns-in-Ok-clause-rests
returns-in-Ok-clause-rests g c =
    rests g.D.Desk g.met.D.Desk.laws c.args.desk.now c.is_shut.new.self c.is_shut.ensures.trusted
    c.is_shut.ensures.kept c.is_shut.ensures.sound c.is_shut.ensures.held
    c.is_shut.ensures.outlasts

pub returns-in-Ok-clause-tells : goal.returns-in-Ok-clause-tells
returns-in-Ok-clause-tells g c =
    search (rules, tells, g.D.Desk, g.met.D.Desk.laws, c.in-Ok.ensures.told)

pub returns-in-Err-clause-rests : goal.returns-in-Err-clause-rests
returns-in-Err-clause-rests g c =
    rests g.D.Desk g.met.D.Desk.laws c.args.desk.now c.is_shut.new.self c.is_shut.ensures.trusted
    c.is_shut.ensures.kept c.is_shut.ensures.sound c.is_shut.ensures.held
    c.is_shut.ensures.outlasts

pub returns-in-Err-clause-tells : goal.returns-in-Err-clause-tells
returns-in-Err-clause-tells g c = inr c.in-Err.ensures.faults
