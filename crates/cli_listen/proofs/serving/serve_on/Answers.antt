use Rattle.std.proofs.Common.{rules, inl, inr, refl}
use Rattle.cli_listen.specs.{Visits.sources, declared.fault.ServingFault.ServingFault}
use Rattle.cli_listen.proofs.{Receiving.no_more, Staying.{first_told, unserved}}
use Rattle.cli_listen.proofs.serving.serve_on.Goals as goal

pub returns-in_default-clause-served : goal.returns-in_default-clause-served
returns-in_default-clause-served g c = search (rules, unserved, g.D.Desk, g.met.D.Desk.laws)

pub returns-then-tell_address-clause-served : goal.returns-then-tell_address-clause-served
returns-then-tell_address-clause-served g c = record {
  served = c.serve_each.ensures.served;
  first =
      first_told _ _ c.serve_each.result _ _ c.serve_each.ensures.fault
      (c.tell_address.ensures.whole c.if-tell_address.true);
}

pub returns-clause-served : goal.returns-clause-served
returns-clause-served g c =
    let told = g.M.Moments.told c.args.clock.now in
    let did = g.L.Listens.did c.args.listening.now.listener in
    unserved g.D.Desk g.met.D.Desk.laws c.args.listening.now.address c.args.listening.now.count
    (sources told did) (sources told did) c.args.desk.now ServingFault.File _ _ _
    (no_more told) (no_more did) refl (inl (refl, c.tell_address.ensures.some)) (inr refl) refl
