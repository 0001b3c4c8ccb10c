use Rattle.std.proofs.Common.{arith, rules, ap, ◌∙◌}
use Rattle.room_entry.proofs.Same.{entries_equal}
use Rattle.room_rows.specs.{HeldList.Held, Keep.with_inh}
use Rattle.room_judge.proofs.Calls.{none_done, fails, finish, done, of_change, of_write}
use Rattle.room_judge.proofs.UpTo.{tail_share}
use Rattle.room_desk.proofs.Placed.PlacingCalls.{passed_unread, taken_as, unrenewed}
use Rattle.room_desk.proofs.Writes.Sufficing.{one_changed, taken_share}
use Rattle.room_desk.proofs.placing.take_passed.Goals as goal

pub returns-then-is_stored-clause-done : goal.returns-then-is_stored-clause-done
returns-then-is_stored-clause-done g c =
    let m = g.met.K.Keep in
    let inh = c.inh.ensures ∙ ap (λ (h : Held). h.inh) c.held.ensures in
    finish m.laws tt (none_done m.laws c.args.keep.now)
    (grind (arith, entries_equal, c.is_same-is_stored.ensures, c.if-is_stored.true, inh))

pub returns-in_err-set_inh-clause-done : goal.returns-in_err-set_inh-clause-done
returns-in_err-set_inh-clause-done g c =
    let m = g.met.K.Keep in
    fails m.laws (none_done m.laws c.args.keep.now) (of_write c.in_err-set_inh.ensures.written)
    (λ old mid at same h. unrenewed c.args.target.now old mid at same h)
    c.from_residual.result c.from_residual.ensures.1

pub returns-clause-done : goal.returns-clause-done
returns-clause-done g c =
    let m = g.met.K.Keep in
    let inh = c.inh.ensures ∙ ap (λ (h : Held). h.inh) c.held.ensures in
    tail_share m.laws c.carry_below.result (done (of_change c.in_ok-set_inh.ensures.written
    (λ old x new more changes enough.
    one_changed c.args.target.now.id (with_inh c.args.which c.as_slice.result.now)
    enough.0.0.node old new more changes enough.0.0.there enough.1)))
    c.carry_below.ensures.done (search (rules, passed_unread))
    (grind (arith, taken_as, c.as_slice.ensures))
    (λ old mid x new more are changes down enough.
    taken_share c.args.which c.args.target.now c.as_slice.result.now c.args.passed.now old mid
    new more c.as_slice.ensures
    (grind (arith, inh, c.is_same-is_stored.ensures, c.if-is_stored.false)) changes down enough)
