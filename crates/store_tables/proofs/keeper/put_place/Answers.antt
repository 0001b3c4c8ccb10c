use Rattle.std.{proofs.Common.{◌<◌, Some, ap, pos}, specs.Prelude.option_map}
use Rattle.sqlite.specs.Held.{state}
use Rattle.store_tables.{specs.RoomRows.number_in-low, proofs.{Changed.of_one, Altered.placed_rows}}
use Rattle.store_tables.proofs.Tests.{if_ok}
use Rattle.store_tables.proofs.keeper.put_place.Goals as goal

pub returns-clause-puts : goal.returns-clause-puts
returns-clause-puts g c =
    let old = state g.S.Store c.args.keeper.now.tx.now.conn.now in
    let new = state g.S.Store c.update_place-done.new.tx.conn.now in
    let done = c.update_place-done.result in
    let under = of_one done (0 < c.args.parent) _ c.in_ok-wrote_one.ensures.answer
    (if_ok done _ _ (λ count low one. low) c.update_place-done.ensures.from_one) in
    let lies = ap (option_map Some) (number_in-low c.args.parent under) in
    record {
      stays = c.update_place-done.ensures.writes.stays;
      no_less = c.in_ok-wrote_one.ensures.no_less;
      unfailed = c.in_ok-wrote_one.ensures.unfailed;
      fault = tt;
      becomes = λ trust.
          let put = of_one done _ _ c.in_ok-wrote_one.ensures.answer
          (c.update_place-done.ensures.writes.leaves trust.clean trust.now) in
          placed_rows old.now new.now c.args.id trust.now
          (number_in-low c.args.id put.0) (pos c.args.parent) c.args.name.now c.args.parent
          c.args.name.now lies c.text_is_kept.ensures put.1;
    }
