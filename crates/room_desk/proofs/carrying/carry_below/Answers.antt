use Rattle.std.proofs.Common.{rules}
use Rattle.room_desk.proofs.Lists.CarriedDown.{carried_ok, carried_err}
use Rattle.room_desk.proofs.Writes.Reading.{reads_carried}
use Rattle.room_desk.proofs.carrying.carry_below.Goals as goal

pub returns-in-Ok : goal.returns-in-Ok
returns-in-Ok g c =
    record {
      done = search (rules, carried_ok, g.met.K.Keep.laws, c.in-Ok.field-0, c.in-Ok.ensures.spread);
      counted =
          reads_carried g.K.Keep c.args.keep.now c.spread-outcome.new.keep 3 c.in-Ok.field-0.changed
          c.in-Ok.ensures.counted c.in-Ok.ensures.spread.written;
    }

pub returns-in-Err : goal.returns-in-Err
returns-in-Err g c =
    search (rules, carried_err, g.met.K.Keep.laws, c.keeper_fault.ensures, c.in-Err.ensures.spread)
