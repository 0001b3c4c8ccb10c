use Rattle.std.proofs.Common.{arith, ◌≡◌, sym, ◌∙◌}
use Rattle.room_rows.specs.{Held.{full_of, held_of}, Pass.pass}
use Rattle.room_judge.proofs.Calls.{none_done, tail, finish}
use Rattle.room_desk.proofs.Placed.PlacingCalls.{renewing_before, taken_renews, unlinked_renews}
use Rattle.room_desk.proofs.placing.renew_list.Goals as goal

pub returns-then-not-takes_from-clause-done : goal.returns-then-not-takes_from-clause-done
returns-then-not-takes_from-clause-done g c =
    let m = g.met.K.Keep in
    finish m.laws tt (none_done m.laws c.args.keep.now)
    (grind (arith, unlinked_renews, c.takes_from.ensures, c.if-not-takes_from.true))

pub returns-clause-done : goal.returns-clause-done
returns-clause-done g c =
    let m = g.met.K.Keep in
    let passed : c.in_ok-passed.passed
    ≡ pass c.args.target.now.kind (full_of (held_of c.args.which c.args.folder.now)) =
    grind (arith, c.in_ok-passed.ensures, c.full.ensures, c.held.ensures) in
    tail m.laws (none_done m.laws c.args.keep.now) c.take_passed.ensures.done
    (λ old mid at same h. renewing_before c.args.target.now old mid at same h)
    (λ old mid x new same takes.
    taken_renews c.args.which c.args.target.now c.args.folder.now c.in_ok-passed.passed old
    mid new same (sym c.takes_from.ensures ∙ c.if-not-takes_from.false) passed takes)
