use Rattle.std.proofs.Common.{ℕ, Result, subst, arith}
use Rattle.room_inherit.specs.{Turn.RenewsAll, declared.outcome.SpreadFault.SpreadFault}
use Rattle.room_inherit.proofs.Calls.{gathered_written, handed_on, writing_fails}
use Rattle.room_inherit.proofs.turn.renew_all.Goals as goal

pub returns-in_err-write_all-clause-renewed : goal.returns-in_err-write_all-clause-renewed
returns-in_err-write_all-clause-renewed g c = λ above is.
    let d = c.args.descent.now in
    let all = c.args.children.items in
    let before = c.args.waiting.now.items in
    let after = c.gather.new.waiting.items in
    let fault = c.in_err-write_all.field-0.0 in
    subst
    (λ (r : Result ℕ SpreadFault). RenewsAll g.K.Keep c.args.keep.now c.write_all.new.keep d above
    all before after r)
    (grind (arith, handed_on, fault, c.from_residual-in_err-write_all.ensures.1))
    (writing_fails g.K.Keep g.met.K.Keep.laws d above all before after c.new-outdated.result
    c.gather.new.outdated c.new-outdated.ensures c.args.passed.now is c.args.keep.now
    c.gather.new.keep c.write_all.new.keep (c.in_ok-gather.ensures.gathered above is) fault
    c.in_err-write_all.ensures.written)

pub returns-clause-renewed : goal.returns-clause-renewed
returns-clause-renewed g c = λ above is.
    gathered_written g.K.Keep g.met.K.Keep.laws c.args.descent.now above c.args.children.items
    c.args.waiting.now.items c.gather.new.waiting.items c.new-outdated.result
    c.gather.new.outdated c.new-outdated.ensures c.args.passed.now is c.args.keep.now
    c.gather.new.keep c.write_all.new.keep (c.in_ok-gather.ensures.gathered above is)
    c.count.result c.count.ensures c.in_ok-write_all.ensures.written

pub returns-clause-few : goal.returns-clause-few
returns-clause-few g c =
    grind (arith, c.new-outdated.ensures, c.in_ok-gather.ensures.few, c.count.ensures)
