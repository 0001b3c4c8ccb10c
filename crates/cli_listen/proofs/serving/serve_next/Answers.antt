use Rattle.std.proofs.Common.{[], ◌∷◌, Err, refl, subst, rules, w64, ℤ, SFits}
use Rattle.std.proofs.lemmas.Int.{to_z-of_z}
use Rattle.cli_listen.specs.{Peers.{Act, wire}, Visits.{Attends, Meeting, sources, until}}
use Rattle.cli_listen.{specs.declared.fault.ServingFault.ServingFault, proofs.Receiving.lost}
use Rattle.cli_listen.proofs.Receiving.{met_fault, met_lost, met_peer, nobody, no_more, one, told_on}
use Rattle.cli_listen.proofs.serving.serve_next.Goals as goal

pub returns-in-Ok-Some-clause-received : goal.returns-in-Ok-Some-clause-received
returns-in-Ok-Some-clause-received g c =
    let moment = c.next.result in
    let told = g.M.Moments.told in
    let did = g.L.Listens.did in
    let left = g.L.Reader.Read.remaining in
    let sent = g.L.Writer.Write.contents in
    let peer = c.in-Ok-Some.peer in
    let came = wire (left peer.reader) (sent peer.writer) in
    let has = c.serve_peer.ensures.0 in
    let old = c.args.desk.now in
    let new = c.serve_peer.new.desk in
    let fits : SFits w64 moment = search rules in
    let attends = subst (λ (z : ℤ). Attends g.D.Desk z (Meeting.Met came has) c.serve_peer.result
    old new) (to_z-of_z w64 moment fits) c.serve_peer.ensures.1 in
    let met = met_peer c.meet.result (did c.args.listener.now) (did c.meet.new.self)
    (λ x. wire (left x.reader) (sent x.writer)) _ peer c.in-Ok-Some.is c.in-Ok-Some.field-0-is
    c.meet.ensures.met in
    one g.D.Desk g.met.D.Desk.laws moment (Meeting.Met came has) c.serve_peer.result
    (sources (told c.args.clock.now) (did c.args.listener.now))
    (sources (told c.next.new.self) (did c.serve_peer.new.listener)) old new c.next.ensures
    (told_on (did c.args.listener.now) (did c.meet.new.self) (did c.serve_peer.new.listener)
    (Act.Came came ∷ []) (Act.Parted has ∷ []) (Act.Came came ∷ Act.Parted has ∷ []) refl met
    c.serve_peer.ensures.2) attends

pub returns-in-Ok-None-clause-received : goal.returns-in-Ok-None-clause-received
returns-in-Ok-None-clause-received g c =
    let told = g.M.Moments.told in
    let did = g.L.Listens.did in
    let left = g.L.Reader.Read.remaining in
    let sent = g.L.Writer.Write.contents in
    let moment = c.next-in-Ok-None.result in
    let met = met_lost c.meet.result (did c.args.listener.now) (did c.meet.new.self)
    (λ x. wire (left x.reader) (sent x.writer)) _ c.in-Ok-None.is c.in-Ok-None.field-0-is c.meet.ensures.met in
    one g.D.Desk g.met.D.Desk.laws moment Meeting.Lost _
    (sources (told c.args.clock.now) (did c.args.listener.now))
    (sources (told c.next-in-Ok-None.new.self) (did c.meet.new.self)) c.args.desk.now
    c.args.desk.now c.next-in-Ok-None.ensures met
    (lost g.D.Desk g.met.D.Desk.laws moment c.args.desk.now)

pub returns-in-Ok-Some-clause-attends : goal.returns-in-Ok-Some-clause-attends
returns-in-Ok-Some-clause-attends g c = (_, _, _, c.serve_peer.ensures.1)

pub returns-in-Ok-None-clause-attends : goal.returns-in-Ok-None-clause-attends
returns-in-Ok-None-clause-attends g c = (
  c.next-in-Ok-None.result,
  _,
  _,
  lost g.D.Desk g.met.D.Desk.laws c.next-in-Ok-None.result c.args.desk.now,
)

pub returns-in-Err-clause-fault : goal.returns-in-Err-clause-fault
returns-in-Err-clause-fault g c =
    let told = g.M.Moments.told c.args.clock.now in
    let did = g.L.Listens.did in
    let left = g.L.Reader.Read.remaining in
    let sent = g.L.Writer.Write.contents in (
      c.in-Err.ensures.fault,
      refl,
      nobody g.D.Desk g.met.D.Desk.laws 0 (sources told (did c.args.listener.now))
          (until (Err ServingFault.Net) (sources told (did c.meet.new.self))) c.args.desk.now
          (no_more told)
          (met_fault c.meet.result (did c.args.listener.now) (did c.meet.new.self)
          (λ x. wire (left x.reader) (sent x.writer)) _ c.in-Err.is c.meet.ensures.met),
    )
