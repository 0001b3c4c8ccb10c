use Rattle.std.proofs.Common.{◌≡◌, true, ap, ◌∙◌}
use Rattle.room_rows.specs.Paths.{is_object_name}
use Rattle.room_judge.{specs.Halted.replied, proofs.{Calls.{done, none_done, tail}, Halts.faults}}
use Rattle.room_judge.proofs.{Halts.halts_first, UpTo.{finish_up_to, then_provided, widened}}
use Rattle.room_desk.proofs.Moves.MovingSteps.{moves, name_is, never_unread, never_unplaced}
use Rattle.room_desk.proofs.Moves.MovingSteps.{place_ended, root_refused, some_last}
use Rattle.room_desk.proofs.Writes.Placing.{can_go_there}
use Rattle.room_desk.proofs.moving.move_found.Goals as goal

pub returns-in-None-clause-done : goal.returns-in-None-clause-done
returns-in-None-clause-done g c =
    let m = g.met.K.Keep in
    let asker = c.args.moving.now.ask.now.asker.now in
    let path = c.args.moving.now.ask.now.path.now in
    let from = c.args.moving.now.from.now in
    let target = c.args.moving.now.target.now in
    tail m.laws (none_done m.laws c.args.keep.now) (widened m.laws c.refuse_root.ensures.done)
    (λ old mid at same never. absurd never)
    (λ old mid outcome new same judged rooted first are paired.
    root_refused asker path c.args.to.now from target first old are paired new (replied outcome)
    c.in-None.ensures.parts
    (rw same at judged))

pub returns-in_err-folder-in-Some-clause-done : goal.returns-in_err-folder-in-Some-clause-done
returns-in_err-folder-in-Some-clause-done g c =
    let asker = c.args.moving.now.ask.now.asker.now in
    let path = c.args.moving.now.ask.now.path.now in
    let to = c.args.to.now in
    let from = c.args.moving.now.from.now in
    let target = c.args.moving.now.target.now in
    let some =
    some_last to c.in-Some.field-0-1.now c.in-Some.name.now c.in-Some.ensures.parts in
    halts_first g.met.K.Keep.laws _ c.in_err-folder-in-Some.ensures.done
    (λ old at h rooted first are paired.
    never_unread asker path to from target first old are paired at (h rooted))
    (λ old new reply are_old reached rooted first are paired.
    place_ended asker path to from target first old are paired some new reply (reached rooted))
    c.from_residual.result c.from_residual.ensures.1

pub returns-in_err-place_at-in-Some-clause-done : goal.returns-in_err-place_at-in-Some-clause-done
returns-in_err-place_at-in-Some-clause-done g c =
    let asker = c.args.moving.now.ask.now.asker.now in
    let path = c.args.moving.now.ask.now.path.now in
    let to = c.args.to.now in
    let from = c.args.moving.now.from.now in
    let target = c.args.moving.now.target.now in
    let some =
    some_last to c.in-Some.field-0-1.now c.in-Some.name.now c.in-Some.ensures.parts in
    let last =
    name_is to c.in-Some.field-0-1.now c.in-Some.name.now c.as_str.result.now
    c.in-Some.ensures.parts c.as_str.ensures in
    let named : is_object_name c.as_str.result.now ≡ true = ap is_object_name c.as_str.ensures
    ∙ c.in-Some.ensures.name in
    faults g.met.K.Keep.laws (done c.in_ok-folder-in-Some.ensures.done)
    c.in_err-place_at-in-Some.ensures.done
    (λ mid end at are_mid reached fails rooted first are paired.
    never_unplaced asker path to from target first mid are paired some c.in_ok-folder-in-Some.folder
    end c.as_str.result.now last named (reached rooted) at fails)
    c.from_residual-in_err-place_at-in-Some.result
    c.from_residual-in_err-place_at-in-Some.ensures.1

pub returns-in_ok-place_at-in-Some-clause-done : goal.returns-in_ok-place_at-in-Some-clause-done
returns-in_ok-place_at-in-Some-clause-done g c =
    let m = g.met.K.Keep in
    let asker = c.args.moving.now.ask.now.asker.now in
    let path = c.args.moving.now.ask.now.path.now in
    let to = c.args.to.now in
    let from = c.args.moving.now.from.now in
    let target = c.args.moving.now.target.now in
    let some =
    some_last to c.in-Some.field-0-1.now c.in-Some.name.now c.in-Some.ensures.parts in
    let last =
    name_is to c.in-Some.field-0-1.now c.in-Some.name.now c.as_str.result.now
    c.in-Some.ensures.parts c.as_str.ensures in
    let named : is_object_name c.as_str.result.now ≡ true = ap is_object_name c.as_str.ensures
    ∙ c.in-Some.ensures.name in
    finish_up_to m.laws _ (then_provided m.laws (done c.in_ok-folder-in-Some.ensures.done)
    (done c.in_ok-place_at-in-Some.ensures.done)
    (λ mid end new are_mid reached places rooted first are paired.
    rw places.0
    (moves asker path to from target first mid are paired some c.in_ok-folder-in-Some.folder end
    c.as_str.result.now last named (reached rooted) new places.1 places.2))
    (λ mid end new more are reached enough. (
      can_go_there asker path to from target mid end c.args.root.now
          c.in_ok-folder-in-Some.folder c.as_str.result.now last are enough.0 reached,
      enough.1,
    ))) (λ old new are h. h)
