use Rattle.std.proofs.Common.{rules}
use Rattle.room_desk.proofs.{Lists.CarriedDown.{given_ok, given_err}, Writes.Reading.reads_carried}
use Rattle.room_desk.proofs.carrying.carry_from.Goals as goal

pub returns-in-Ok : goal.returns-in-Ok
returns-in-Ok g c =
    record {
      done = search (rules, given_ok, g.met.K.Keep.laws, c.in-Ok.field-0, c.in-Ok.ensures.spread);
      counted =
          reads_carried g.K.Keep c.args.keep.now c.spread_from-outcome.new.keep 2
          c.in-Ok.field-0.changed c.in-Ok.ensures.counted c.in-Ok.ensures.spread.written;
    }

pub returns-in-Err : goal.returns-in-Err
returns-in-Err g c =
    search (rules, given_err, g.met.K.Keep.laws, c.keeper_fault.ensures, c.in-Err.ensures.spread)
