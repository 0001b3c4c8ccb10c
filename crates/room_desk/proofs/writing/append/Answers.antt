use Rattle.std.proofs.Common.{arith, [], ◌∷◌, refl, Ok, Err}
use Rattle.room_entry.specs.Rights.{append_data}
use Rattle.room_judge.specs.Halted.{replied}
use Rattle.room_judge.proofs.{Calls.done, Halts.halts_first, UpTo.tail_provided}
use Rattle.room_desk.proofs.Bytes.Appending.{append_blames, append_done, append_ended}
use Rattle.room_desk.proofs.Steps.Serving.{DocumentAt, document_there, reached_as}
use Rattle.room_desk.proofs.Writes.Sufficing.{one_of_both}
use Rattle.room_sound.proofs.Blamed.{rootless_damaged}
use Rattle.room_desk.proofs.writing.append.Goals as goal

pub returns-in_err-node-clause-done : goal.returns-in_err-node-clause-done
returns-in_err-node-clause-done g c =
    let asker = c.args.ask.now.asker.now in
    let path = c.args.ask.now.path.now in
    halts_first g.met.K.Keep.laws _ c.in_err-node.ensures.done
    (λ old at h. rootless_damaged old old at refl h)
    (λ old new reply are reached.
    append_ended asker path c.args.bytes.now old new reply are
    (reached_as asker path DocumentAt c.append_data-mask.result (append_data ∷ []) (Err reply) old
    new c.append_data-mask.ensures reached)) c.from_residual.result c.from_residual.ensures.1

pub returns-clause-done : goal.returns-clause-done
returns-clause-done g c =
    let asker = c.args.ask.now.asker.now in
    let path = c.args.ask.now.path.now in
    let node = c.in_ok-node.node in
    tail_provided g.met.K.Keep.laws (done c.in_ok-node.ensures.done) c.append_at.ensures.done
    (λ old mid at are reached h.
    append_blames asker path c.args.bytes.now old mid node are
    (grind (arith, reached_as, asker, path, node, c.append_data-mask.ensures)) at h)
    (λ old mid outcome new are reached appended.
    append_done asker path c.args.bytes.now old mid node are
    (reached_as asker path DocumentAt c.append_data-mask.result (append_data ∷ []) (Ok node) old mid
    c.append_data-mask.ensures reached) new (replied outcome) appended)
    (λ old mid new more are reached enough.
    let document = document_there asker path (append_data ∷ []) old mid node are
    (grind (arith, reached_as, asker, path, node, c.append_data-mask.ensures)) in
    ((node, document.0, document.1), one_of_both old new more enough))
