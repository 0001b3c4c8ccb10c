use Rattle.std.proofs.Common.{arith, [], ◌∷◌, refl, Ok}
use Rattle.room_entry.specs.Rights.{read_attributes}
use Rattle.room_machine.specs.declared.request.Request.TheVariants.{ReadAttr}
use Rattle.room_judge.proofs.{Calls.{done, finish}, Halts.halts_first}
use Rattle.room_sound.proofs.Blamed.{rootless_damaged}
use Rattle.room_desk.proofs.Steps.Serving.{CheckAt, not_served, reached_as, served_attr}
use Rattle.room_desk.proofs.reading.read_attr.Goals as goal

pub returns-in_err-node-clause-done : goal.returns-in_err-node-clause-done
returns-in_err-node-clause-done g c =
    let asker = c.args.ask.now.asker.now in
    let path = c.args.ask.now.path.now in
    halts_first g.met.K.Keep.laws _ c.in_err-node.ensures.done
    (λ old at h. rootless_damaged old old at refl h)
    (λ old new reply are reached.
    not_served asker path (ReadAttr path) (CheckAt (read_attributes ∷ [])) (λ along content. refl)
    (λ site. refl) old new reply are
    (grind (arith, reached_as, asker, path, c.read_attributes.ensures)))
    c.from_residual.result c.from_residual.ensures.1

pub returns-clause-done : goal.returns-clause-done
returns-clause-done g c =
    let asker = c.args.ask.now.asker.now in
    let path = c.args.ask.now.path.now in
    finish g.met.K.Keep.laws _ (done c.in_ok-node.ensures.done)
    (λ old new are reached.
    served_attr asker path old new c.in_ok-node.node _ are
    (reached_as asker path CheckAt c.read_attributes.result (read_attributes ∷ [])
    (Ok c.in_ok-node.node) old new c.read_attributes.ensures reached) c.attr_reply.ensures)
