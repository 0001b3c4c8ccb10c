use Rattle.std.proofs.Common.{rules, arith, length, refl, ◌+◌}
use Rattle.room_judge.specs.Halted.{settled}
use Rattle.room_judge.proofs.{Calls.done, Halts.halts_first, UpTo.tail_provided}
use Rattle.room_desk.proofs.Lists.SetRequest.{found_pair, set_halted}
use Rattle.room_desk.proofs.Writes.{Sufficing.{each_of_both, stands_along}, Reading.reads_on}
use Rattle.room_sound.proofs.Blamed.{rootless_damaged}
use Rattle.room_desk.proofs.setting.set_list.Goals as goal

pub returns-in_err-pair-clause-done : goal.returns-in_err-pair-clause-done
returns-in_err-pair-clause-done g c =
    halts_first g.met.K.Keep.laws _ c.in_err-pair.ensures.done
    (λ old at h. rootless_damaged old old at refl h) (search (rules, set_halted))
    c.from_residual.result c.from_residual.ensures.1

pub returns-clause-done : goal.returns-clause-done
returns-clause-done g c =
    let asker = c.args.ask.now.asker.now in
    let path = c.args.ask.now.path.now in
    let folder = c.in_ok-pair.pair.folder in
    let target = c.in_ok-pair.pair.target in
    tail_provided g.met.K.Keep.laws (done c.in_ok-pair.ensures.done) c.set_allowed.ensures.done
    (search (rules, found_pair, asker, folder, target))
    (search (rules, found_pair, asker, folder, target))
    (λ old mid new more are paired enough. (
      stands_along path target.node old are paired.target,
      each_of_both c.args.which old new more enough,
    ))

pub returns-clause-counted : goal.returns-clause-counted
returns-clause-counted g c =
    reads_on g.K.Keep (settled c.set_allowed.result) c.args.keep.now
    c.to_pair.new.keep c.set_allowed.new.keep (length c.args.ask.now.path.now + 1) 2
    (length c.args.ask.now.path.now + 3) c.in_ok-pair.ensures.counted
    (g.met.K.Keep.laws.grow _ _ c.in_ok-pair.ensures.done.follows) (omega arith)
    c.set_allowed.ensures.counted
