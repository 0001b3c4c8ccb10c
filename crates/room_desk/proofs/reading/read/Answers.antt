use Rattle.std.proofs.Common.{rules, refl}
use Rattle.room_machine.specs.declared.request.Request.TheVariants.{Read}
use Rattle.room_judge.proofs.{Calls.{done, finish, of_read, then_known}, Halts.faults}
use Rattle.room_judge.proofs.Halts.{halts_first}
use Rattle.room_sound.proofs.Blamed.{rootless_damaged}
use Rattle.room_desk.proofs.Steps.Serving.{bytes_answered, no_bytes, not_served}
use Rattle.room_desk.proofs.reading.read.Goals as goal

pub returns-in_err-node-clause-done : goal.returns-in_err-node-clause-done
returns-in_err-node-clause-done g c =
    let asker = c.args.ask.now.asker.now in
    let path = c.args.ask.now.path.now in
    halts_first g.met.K.Keep.laws _ c.in_err-node.ensures.done
    (λ old at h. rootless_damaged old old at refl h)
    (λ old new reply are reached.
    not_served asker path (Read path) _ (λ along content. refl) (λ site. refl)
    old new reply are (rw c.read_data-mask.ensures at reached))
    c.from_residual.result c.from_residual.ensures.1

pub returns-in_err-read_at-clause-done : goal.returns-in_err-read_at-clause-done
returns-in_err-read_at-clause-done g c =
    let asker = c.args.ask.now.asker.now in
    faults g.met.K.Keep.laws (done c.in_ok-node.ensures.done)
    (of_read c.in_err-read_at.ensures.read)
    (search (rules, no_bytes, asker, c.in_ok-node.node, c.read_data-mask.ensures))
    c.from_residual-in_err-read_at.result c.from_residual-in_err-read_at.ensures.1

pub returns-clause-done : goal.returns-clause-done
returns-clause-done g c =
    let m = g.met.K.Keep in
    let asker = c.args.ask.now.asker.now in
    let path = c.args.ask.now.path.now in
    finish m.laws _ (then_known m.laws (done c.in_ok-node.ensures.done)
    (done (of_read c.in_ok-read_at.ensures.read))
    (λ old mid new are reached told.
    bytes_answered asker path old mid new c.in_ok-node.node _ are
    (rw c.read_data-mask.ensures at reached) told.0 told.1)) (λ old new are h. h)
