use Rattle.std.proofs.Common.{arith, [], ◌∷◌, refl, ap, ◌∙◌}
use Rattle.room_rows.specs.{HeldList.Held, Held.full_of}
use Rattle.room_entry.specs.Rights.{read_acl}
use Rattle.room_machine.specs.declared.reply.Reply.TheVariants.{Lists}
use Rattle.room_machine.specs.declared.request.Request.TheVariants.{ReadList}
use Rattle.room_judge.proofs.{Calls.{done, finish}, Halts.{halts_first, memory_out}}
use Rattle.room_sound.proofs.Blamed.{rootless_damaged}
use Rattle.room_desk.proofs.Steps.Serving.{CheckAt, not_served, reached_as, served_list}
use Rattle.room_desk.proofs.reading.read_full_list.Goals as goal

pub returns-in_err-node-clause-done : goal.returns-in_err-node-clause-done
returns-in_err-node-clause-done g c =
    let asker = c.args.ask.now.asker.now in
    let path = c.args.ask.now.path.now in
    halts_first g.met.K.Keep.laws _ c.in_err-node.ensures.done
    (λ old at h. rootless_damaged old old at refl h)
    (λ old new reply are reached.
    not_served asker path (ReadList path c.args.which) (CheckAt (read_acl ∷ [])) (λ along content. refl)
    (λ site. refl) old new reply are (grind (arith, reached_as, asker, path, c.read_acl.ensures)))
    c.from_residual.result c.from_residual.ensures.1

pub returns-in_err-list_reply-clause-done : goal.returns-in_err-list_reply-clause-done
returns-in_err-list_reply-clause-done g c =
    memory_out g.met.K.Keep.laws (done c.in_ok-node.ensures.done)
    c.from_residual-in_err-list_reply.result c.from_residual-in_err-list_reply.ensures.1

pub returns-clause-done : goal.returns-clause-done
returns-clause-done g c =
    let asker = c.args.ask.now.asker.now in
    let path = c.args.ask.now.path.now in
    finish g.met.K.Keep.laws _ (done c.in_ok-node.ensures.done)
    (λ old new are reached.
    served_list asker path c.args.which old new c.in_ok-node.node _ are
    (grind (arith, reached_as, asker, path, c.in_ok-node.node, c.read_acl.ensures))
    (c.in_ok-list_reply.ensures ∙ ap (λ (h : Held). Lists h.flags (full_of h)) c.held.ensures))
