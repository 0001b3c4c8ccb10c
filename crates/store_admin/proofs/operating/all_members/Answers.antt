use Rattle.std.proofs.Common.{◌≡◌, ap, ◌∙◌}
use Rattle.sqlite.specs.Held.{state}
use Rattle.store_admin.specs.Operating.{pairs_seen}
use Rattle.store_tables.proofs.Failing.{fails_inside}
use Rattle.store_admin.proofs.{InOrder.pairs_apart, Members.tells_members}
use Rattle.store_admin.proofs.operating.all_members.Goals as goal

pub returns-clause-carries : goal.returns-clause-carries
returns-clause-carries g c =
    let old = state g.S.Store c.args.tx.now.conn.now in
    let rows = c.in-Ok.rows.items in
    let asks = c.in-Ok.ensures.asks in
    let seen : c.in_ok-see_pairs.field-0.items ≡ pairs_seen rows = c.in_ok-see_pairs.ensures
    ∙ ap pairs_seen c.as_slice.ensures.value in
    record {
      stays = asks.stays;
      becomes =
          λ trust. seen ∙ tells_members (old.now.trees 3) rows (pairs_apart old.now trust.now)
          (asks.rows trust.clean trust.now);
      blames = λ trust id is. absurd is;
    }

pub returns-in-Err-clause-fails : goal.returns-in-Err-clause-fails
returns-in-Err-clause-fails g c =
    let old = state g.S.Store c.args.tx.now.conn.now in
    let new = state g.S.Store c.select_members.new.tx.conn.now in
    λ trust is. fails_inside old new c.in-Err.error c.fault_for.result c.fault_for.ensures.fault
    c.in-Err.ensures.fails trust (cc)

-- a query changes nothing
pub returns-clause-same : goal.returns-clause-same
returns-clause-same g c = λ trust. (c.in-Ok.ensures.asks.same trust.clean trust.now).0.now_is
