use Rattle.std.proofs.Common.{rules}
use Rattle.cli_listen.proofs.Staying.{by_listener, refused_at}
use Rattle.cli_listen.proofs.binding.serve_at.Goals as goal

pub returns-in_default-clause-served : goal.returns-in_default-clause-served
returns-in_default-clause-served g c =
    search (rules, refused_at, g.D.Desk, g.met.D.Desk.laws, c.in_default.ensures.did)

pub returns-clause-served : goal.returns-clause-served
returns-clause-served g c =
    let did = g.P.Ports.did in
    let service = c.args.service.now in
    by_listener g.D.Desk service.address service.count (g.M.Moments.told service.clock)
    (g.M.Moments.told c.serve_on-end.new.clock) g.P.Listener.Listens.did c.in-Ok.listener
    c.serve_on-end.new.listening.listener (did service.ports) (did c.bind_at.new.ports)
    (did c.close.new.self) c.args.desk.now c.serve_on-end.new.desk _ _ _ _
    c.serve_on-end.result c.in-Ok.ensures.did c.in-Ok.ensures.begins c.close.ensures
    c.serve_on-end.ensures.served
