use Rattle.std.{proofs.Common.rules, specs.Option.option_copied}
use Rattle.room_judge.proofs.{Calls.{done, then}, Halts.{faults, halts_first}, UpTo.finish_up_to}
use Rattle.room_desk.proofs.Lists.SetRequest.{allowed_blames, allowed_done, not_allowed}
use Rattle.room_desk.proofs.setting.set_allowed.Goals as goal

pub returns-in_err-check-clause-done : goal.returns-in_err-check-clause-done
returns-in_err-check-clause-done g c =
    let setting = c.args.setting.now in
    halts_first g.met.K.Keep.laws _ c.in_err-check.ensures.done (λ old at never. absurd never)
    (λ mid new reply are judged old found.
    not_allowed c.args.asker.now setting.path.now setting.which setting.sent.now
    setting.target.now (option_copied setting.above) old mid found new c.write_acl-mask.result reply
    c.write_acl-mask.ensures judged) c.from_residual.result c.from_residual.ensures.1

pub returns-in_err-set_found-clause-done : goal.returns-in_err-set_found-clause-done
returns-in_err-set_found-clause-done g c =
    let setting = c.args.setting.now in
    faults g.met.K.Keep.laws (done c.in_ok-check.ensures.done) c.in_err-set_found.ensures.done
    (search (rules, allowed_blames, setting.which, c.write_acl-mask.ensures))
    c.from_residual-in_err-set_found.result c.from_residual-in_err-set_found.ensures.1

pub returns-clause-done : goal.returns-clause-done
returns-clause-done g c =
    let m = g.met.K.Keep in
    finish_up_to m.laws _ (then m.laws (done c.in_ok-check.ensures.done)
    (done c.in_ok-set_found.ensures.done)
    (search (rules, allowed_done, c.write_acl-mask.ensures))) (λ old new are h. h)
