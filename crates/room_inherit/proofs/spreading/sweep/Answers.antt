use Rattle.std.proofs.Common.{rules}
use Rattle.room_inherit.specs.declared.outcome.SpreadFault.{TheVariants.Keeper}
use Rattle.room_inherit.proofs.{Calls.handed_on, SweepCalls.{sweeps_from}}
use Rattle.room_inherit.proofs.spreading.sweep.Goals as goal

pub returns-in_err-root : goal.returns-in_err-root
returns-in_err-root g c =
    let is = handed_on c.from_residual.result
    (Keeper c.in_err-root.field-0.0) c.from_residual.ensures.1 in
    search (rules, is, c.in_err-root.ensures.read)

pub returns : goal.returns
returns g c = record {
  swept =
      sweeps_from g.K.Keep g.met.K.Keep.laws c.args.which c.in_ok-root.root c.args.keep.now
      c.root.new.self c.carry_down.new.keep c.carry_down.result c.in_ok-root.ensures.read
      c.carry_down.ensures.descends;
}
