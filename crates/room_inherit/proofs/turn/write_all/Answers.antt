use Rattle.std.proofs.Common.{arith, rules, Result, Ok, subst, ◌∙◌}
use Rattle.room_inherit.specs.{Turn.WritesAll, declared.outcome.SpreadFault.SpreadFault}
use Rattle.room_inherit.proofs.Calls.{both_written, folders_fail, handed_on, wrote}
use Rattle.room_inherit.proofs.turn.write_all.Goals as goal

pub returns-in_err-write-2-clause-written : goal.returns-in_err-write-2-clause-written
returns-in_err-write-2-clause-written g c =
    let k = g.K.Keep in
    let a = c.args.keep.now in
    let b = c.write.new.keep in
    let e = c.write-2.new.keep in
    let fault = c.in_err-write-2.field-0.0 in
    let passed = c.args.passed.now in
    let numbers = c.args.outdated.now in
    subst
    (λ (r : Result (Unit {0}) SpreadFault). WritesAll k a e c.args.which passed numbers r)
    (grind (arith, handed_on, fault, c.from_residual-in_err-write-2.ensures.1))
    (folders_fail k g.met.K.Keep.laws c.args.which passed numbers a b e
    (wrote k g.met.K.Keep.laws a b (Ok tt) c.args.which _ _ _ _
    (c.as_slice-to_documents.ensures ∙ c.to.ensures) c.as_slice.ensures.value
    c.in_ok-write.ensures.written) fault (search (rules, wrote, c.in_err-write-2.ensures.written)))

pub returns-clause-written : goal.returns-clause-written
returns-clause-written g c =
    both_written g.K.Keep g.met.K.Keep.laws c.args.which c.args.passed.now c.args.outdated.now
    c.args.keep.now c.write.new.keep c.write-2.new.keep
    (wrote g.K.Keep g.met.K.Keep.laws c.args.keep.now c.write.new.keep (Ok tt) c.args.which _ _ _
    _ (c.as_slice-to_documents.ensures ∙ c.to.ensures) c.as_slice.ensures.value
    c.in_ok-write.ensures.written)
    (wrote g.K.Keep g.met.K.Keep.laws c.write.new.keep c.write-2.new.keep (Ok tt) c.args.which _ _
    _ _ (c.as_slice-to_folders.ensures ∙ c.to-2.ensures) c.as_slice-2.ensures.value
    c.in_ok-write-2.ensures.written)
