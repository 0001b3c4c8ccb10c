use Rattle.std.proofs.Common.{rules, refl}
use Rattle.room_judge.proofs.{Calls.{done, finish}, Halts.{halts_first, memory_out}}
use Rattle.room_sound.proofs.Blamed.{rootless_damaged}
use Rattle.room_desk.proofs.Steps.Serving.{not_served, served_rulings}
use Rattle.room_desk.proofs.asking.can.Goals as goal

pub returns-in_err-node-clause-done : goal.returns-in_err-node-clause-done
returns-in_err-node-clause-done g c =
    let path = c.args.ask.now.path.now in
    halts_first g.met.K.Keep.laws _ c.in_err-node.ensures.done
    (λ old at h. rootless_damaged old old at refl h) (search (rules, not_served, path))
    c.from_residual.result c.from_residual.ensures.1

pub returns-in_err-rulings_reply-clause-done : goal.returns-in_err-rulings_reply-clause-done
returns-in_err-rulings_reply-clause-done g c =
    memory_out g.met.K.Keep.laws (done c.in_ok-node.ensures.done)
    c.from_residual-in_err-rulings_reply.result c.from_residual-in_err-rulings_reply.ensures.1

pub returns-clause-done : goal.returns-clause-done
returns-clause-done g c =
    finish g.met.K.Keep.laws _ (done c.in_ok-node.ensures.done)
    (search (rules, served_rulings, c.in_ok-node.node, c.in_ok-rulings_reply.ensures))
