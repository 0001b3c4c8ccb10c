use Rattle.sqlite.specs.Held.{state}
use Rattle.store_tables.proofs.Failing.{fails_inside}
use Rattle.store_admin.proofs.Recorded.{tells_records, tells_unread}
use Rattle.store_admin.proofs.records.all_records.Goals as goal

pub returns-in-Some-clause-carries : goal.returns-in-Some-clause-carries
returns-in-Some-clause-carries g c =
    let old = state g.S.Store c.args.tx.now.conn.now in
    let asks = c.in-Ok.ensures.asks in
    record {
      stays = asks.stays;
      becomes = λ trust.
          tells_records old.now c.in-Ok.rows.items c.as_slice.result.now c.as_slice.ensures.value
          (asks.rows trust.clean trust.now) c.in_ok-records.field-0 c.in-Some.records c.in-Some.is
          c.in_ok-records.ensures;
      blames = λ trust id is. absurd is;
    }

pub returns-clause-carries : goal.returns-clause-carries
returns-clause-carries g c =
    let old = state g.S.Store c.args.tx.now.conn.now in
    let asks = c.in-Ok.ensures.asks in
    record {
      stays = asks.stays;
      becomes = λ _. tt;
      blames = λ trust id is.
          tells_unread old.now c.in-Ok.rows.items c.as_slice.result.now c.as_slice.ensures.value
          (asks.rows trust.clean trust.now) c.in_ok-records.field-0 c.in-None.is
          c.in_ok-records.ensures;
    }

pub returns-in-Err-clause-fails : goal.returns-in-Err-clause-fails
returns-in-Err-clause-fails g c =
    let old = state g.S.Store c.args.tx.now.conn.now in
    let new = state g.S.Store c.select_records.new.tx.conn.now in
    λ trust is. fails_inside old new c.in-Err.error c.fault_for.result c.fault_for.ensures.fault
    c.in-Err.ensures.fails trust (cc)
