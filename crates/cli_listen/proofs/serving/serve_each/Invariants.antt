use Rattle.cli_listen.{specs.Visits.sources, proofs.Told.IsServing}
use Rattle.cli_listen.proofs.serving.serve_each.Given as goal

abbrev pub invariant-connections : goal.invariant-connections
invariant-connections g l =
    IsServing g.D.Desk l.number
    (sources (g.M.Moments.told l.fn.clock) (g.L.Listens.did l.fn.listener))
    (sources (g.M.Moments.told l.clock) (g.L.Listens.did l.listener)) l.fn.desk l.desk l.all_printed
    (g.E.Write.contents l.fn.err) (g.E.Write.contents l.err)
