use Rattle.std.proofs.Common.{[], inl, inr, subst, sym}
use Rattle.sqlite.specs.Held.{Held, state}
use Rattle.room_store.specs.Crash.{Lasts}
use Rattle.cli_listen.{specs.Visits.{requests_of, unanswered_of}, proofs.Receiving.no_more}
use Rattle.cli_serve.specs.Hosts.{Hosts}
use Rattle.cli_serve.proofs.Hosted.{after, closed_from, leaves_requests, left_shut, opened, served}
use Rattle.cli_serve.proofs.Hosted.{stays_room}
use Rattle.cli_serve.proofs.hosting.host.Goals as goal

pub returns-clause-hosts : goal.returns-clause-hosts
unfolding served
returns-clause-hosts g c =
    let shown = state g.S.Store in
    let service = c.args.service.now in
    let old = shown c.args.conn in
    let mid = shown c.in-Ok.store.conn in
    let at = c.serve_at-end.ensures.served in
    let all = after old mid _ (unanswered_of at.visits) (requests_of at.visits)
    (opened old mid _ c.in-Ok.ensures.opened) at.runs.outlasts.0 in
    subst (λ (conn : Held g.row.S.Denot). Hosts shown service.address service.count
    (g.M.Moments.told service.clock) (g.M.Moments.told c.serve_at-end.new.service.clock)
    (g.P.Ports.did service.ports) (g.P.Ports.did c.serve_at-end.new.service.ports)
    c.args.conn conn (g.O.Write.contents c.args.out.now)
    (g.O.Write.contents c.serve_at-end.new.out) (g.E.Write.contents c.args.err.now)
    (g.E.Write.contents c.tell_end-status.new.err) c.tell_end-status.result)
    (sym c.into_conn-conn.ensures.same)
    (inr (record {
      mid = c.in-Ok.store.conn;
      opens = c.in-Ok.ensures.opened;
      served =
          served service.address service.count _ _ _ _ mid _ _ _ _ _ _ c.tell_end-status.result
          at.visits c.serve_at-end.result at.few at.each at.moments at.runs.trusted at.runs.sound
          at.runs.run
          (left_shut _ _ c.in-Ok.store c.serve_at-end.new.desk _ (λ is. is)
          c.serve_at-end.result at.stays)
          c.tell_end-status.ensures.status c.serve_at-end.ensures.told at.listens at.faults
          c.tell_end-status.ensures.told c.what_is_seen_lasts.ensures
          (subst (λ (conn : Held g.row.S.Denot). Lasts (shown conn)) c.into_conn-conn.ensures.same
          c.into_conn-conn.ensures.lasts) at.runs.outlasts.0;
      closed =
          closed_from old mid _ (requests_of at.visits) _ _ c.in-Ok.ensures.opened at.runs.trusted
          at.runs.closed;
      outlasts = all;
      leaves = leaves_requests old _ at.visits all c.what_is_committed_lasts.ensures;
      stays =
          stays_room old mid _ c.in-Ok.ensures.opened at.runs.outlasts.1
          c.what_is_committed_lasts.ensures;
    }))

pub returns-in-Err-clause-hosts : goal.returns-in-Err-clause-hosts
returns-in-Err-clause-hosts g c =
    let old = state g.S.Store c.args.conn in
    let new = state g.S.Store c.in-Err.conn in
    let all = opened old new _ c.in-Err.ensures.back in
    inl (record {
      why = c.in-Err.fault;
      opens = c.in-Err.ensures.back;
      told = c.tell_opening-status.ensures;
      outlasts = all;
      leaves = leaves_requests old new [] all c.what_is_committed_lasts.ensures;
      asked_none = no_more _;
    })
