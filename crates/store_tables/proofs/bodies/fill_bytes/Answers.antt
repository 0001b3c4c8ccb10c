use Rattle.sqlite.specs.Held.{state}
use Rattle.store_tables.proofs.{Changed.if_all, Filling.filled_rows, Tests.if_ok}
use Rattle.store_tables.proofs.bodies.fill_bytes.Goals as goal

pub returns-clause-puts : goal.returns-clause-puts
returns-clause-puts g c =
    let old = state g.S.Store c.args.keeper.now.tx.now.conn.now in
    let new = state g.S.Store c.update_bytes-done.new.tx.conn.now in
    record {
      stays = c.update_bytes-done.ensures.writes.stays;
      no_less = c.wrote_one.ensures.no_less;
      unfailed = c.wrote_one.ensures.unfailed;
      fault = c.wrote_one.ensures.cause;
      becomes = λ trust.
          if_all 1 c.update_bytes-done.result _ c.wrote_one.result c.wrote_one.ensures.answer
          (if_ok c.update_bytes-done.result _ _
          (λ count put one. filled_rows old.now new.now c.args.id c.args.bytes.now trust.now
          (put one).0 (put one).1)
          (c.update_bytes-done.ensures.writes.leaves trust.clean trust.now));
    }
