use Rattle.std.specs.Prelude.{string_bytes}
use Rattle.sqlite.specs.Held.{state}
use Rattle.store_tables.{specs.RoomRows.number_in-low, proofs.{Changed.of_one, Altered.held_rows}}
use Rattle.store_tables.proofs.keeper.put_held.Goals as goal

pub returns-clause-puts : goal.returns-clause-puts
returns-clause-puts g c =
    let old = state g.S.Store c.args.keeper.now.tx.now.conn.now in
    let new = state g.S.Store c.update_held-done.new.tx.conn.now in
    let list = c.in_ok-list.list in
    let stores = c.in_ok-list.ensures in
    record {
      stays = c.update_held-done.ensures.writes.stays;
      no_less = c.in_ok-wrote_one.ensures.no_less;
      unfailed = c.in_ok-wrote_one.ensures.unfailed;
      fault = tt;
      becomes = λ trust.
          let put = of_one c.update_held-done.result _ _ c.in_ok-wrote_one.ensures.answer
          (c.update_held-done.ensures.writes.leaves trust.clean trust.now) in
          held_rows old.now new.now c.args.id trust.now
          (number_in-low c.args.id put.0) c.args.which list.flags
          (string_bytes list.own)
          (string_bytes list.inh) c.args.held.now stores.flags stores.own.1 stores.inh.1 put.1;
    }

pub update_held-done-requires : goal.update_held-done-requires
update_held-done-requires g c = (c.args.held.now, c.in_ok-list.ensures)
