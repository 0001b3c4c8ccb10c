use Rattle.cli_listen.proofs.Receiving.{rested}
use Rattle.cli_listen.proofs.serving.pass.Goals as goal

pub returns-clause-received : goal.returns-clause-received
returns-clause-received g c =
    rested g.D.Desk g.met.D.Desk.laws _ _ _ c.args.desk.now c.serve_next.new.desk
    c.says_shut-shut.new.desk c.in_ok-lost.ensures.received c.says_shut-shut.ensures.rests

pub returns-clause-leaves : goal.returns-clause-leaves
returns-clause-leaves g c = record {
  mid = c.serve_next.new.desk;
  attends = c.in_ok-lost.ensures.attends;
  rests = c.says_shut-shut.ensures.rests;
  tells = c.says_shut-shut.ensures.tells;
}
