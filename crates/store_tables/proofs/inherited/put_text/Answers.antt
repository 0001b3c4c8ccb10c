use Rattle.sqlite.specs.Held.{state}
use Rattle.store_tables.specs.RoomRows.{number_in-low}
use Rattle.store_tables.proofs.{Altered.inherited_rows, Changed.if_all, Tests.if_ok}
use Rattle.store_tables.proofs.inherited.put_text.Goals as goal

pub returns-clause-puts : goal.returns-clause-puts
returns-clause-puts g c = λ entries printed.
    let old = state g.S.Store c.args.keeper.now.tx.now.conn.now in
    let new = state g.S.Store c.update_inh-done.new.tx.conn.now in
    let text = c.args.text.now in
    record {
      stays = c.update_inh-done.ensures.writes.stays;
      no_less = c.wrote_one.ensures.no_less;
      unfailed = c.wrote_one.ensures.unfailed;
      fault = c.wrote_one.ensures.cause;
      becomes = λ trust.
          if_all 1 c.update_inh-done.result _ c.wrote_one.result c.wrote_one.ensures.answer
          (if_ok c.update_inh-done.result _ _
          (λ count put one. inherited_rows old.now new.now c.args.id trust.now
          (number_in-low c.args.id (put one).0) c.args.which text entries printed.1 (put one).1)
          (c.update_inh-done.ensures.writes.leaves trust.clean trust.now));
    }
