use Rattle.std.{proofs.Common.{◌∙◌, ap, nat_eq, refl}, specs.{HashMap.get, Option.option_map}}
use Rattle.room_turns.{specs.{Stands.noted, Turns.view_of}, proofs.Both.first_fails}
use Rattle.room_turns.proofs.Both.{then_no_memory, then_second}
use Rattle.room_turns.proofs.comparing.compare.Goals as goal

pub returns-in_err-table : goal.returns-in_err-table
returns-in_err-table g c = record {
  read =
      first_fails g.K.Keep g.met.K.Keep.laws c.args.before.now c.earlier.new.keep
      c.args.after.now c.in_err-table.field-0.0 c.from_residual.result
      c.in_err-table.ensures.read c.from_residual.ensures.1;
}

pub returns-in_err-scene : goal.returns-in_err-scene
returns-in_err-scene g c = record {
  read =
      then_no_memory g.K.Keep g.met.K.Keep.laws c.args.before.now c.earlier.new.keep
      c.args.after.now c.in_ok-table.table c.from_residual-in_err-scene.result
      c.in_ok-table.ensures.read c.from_residual-in_err-scene.ensures.1;
}

pub returns : goal.returns
returns g c = record {
  read =
      then_second g.K.Keep g.met.K.Keep.laws c.args.before.now c.earlier.new.keep
      c.args.after.now c.answer_of.new.keep c.in_ok-table.table c.answer_of.result
      c.in_ok-table.ensures.read c.answer_of.ensures.read
      (λ rows after table answer gives. gives (view_of c.args.asked.now rows) (record {
        own = c.in_ok-scene.ensures.own;
        looks = refl;
        hidden = c.in_ok-scene.ensures.hidden;
        earlier = λ number.
            ap (λ it. option_map noted (get nat_eq it number)) c.in_ok-scene.ensures.earlier
            ∙ table number;
      }));
}
