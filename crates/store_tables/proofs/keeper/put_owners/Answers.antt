use Rattle.std.proofs.Common.{◌≡◌, Some}
use Rattle.sqlite.specs.{declared.types.Value.TheVariants.Text, Held.state}
use Rattle.store_tables.specs.{Meaning.name_in, RoomRows.number_in-low}
use Rattle.store_tables.proofs.{Changed.of_one, Altered.owned_rows}
use Rattle.store_tables.proofs.keeper.put_owners.Goals as goal

pub returns-clause-puts : goal.returns-clause-puts
returns-clause-puts g c =
    let old = state g.S.Store c.args.keeper.now.tx.now.conn.now in
    let new = state g.S.Store c.update_owners-done.new.tx.conn.now in
    let owner = c.as_str.result.now in
    let group = c.as_str-2.result.now in
    let owned : name_in (Text owner) ≡ Some c.args.owners.now.owner = cc in
    let grouped : name_in (Text group) ≡ Some c.args.owners.now.group = cc in
    record {
      stays = c.update_owners-done.ensures.writes.stays;
      no_less = c.in_ok-wrote_one.ensures.no_less;
      unfailed = c.in_ok-wrote_one.ensures.unfailed;
      fault = tt;
      becomes = λ trust.
          let put = of_one c.update_owners-done.result _ _ c.in_ok-wrote_one.ensures.answer
          (c.update_owners-done.ensures.writes.leaves trust.clean trust.now) in
          owned_rows old.now new.now c.args.id trust.now
          (number_in-low c.args.id put.0) owner group c.args.owners.now owned grouped put.1;
    }
