use Rattle.std.proofs.Common.{arith, rules, refl}
use Rattle.room_judge.proofs.{Calls.done, Halts.halts_first, UpTo.tail_provided}
use Rattle.room_desk.proofs.{Made.PutMade.{put_root, root_barred}, Steps.Serving.along_there}
use Rattle.room_desk.proofs.Writes.Sufficing.{one_of_both}
use Rattle.room_sound.proofs.Blamed.{noted_unread, rootless_damaged}
use Rattle.room_machine.specs.Stored.{stored_site}
use Rattle.room_desk.proofs.making.put_root.Goals as goal

pub returns-in_err-node-clause-done : goal.returns-in_err-node-clause-done
returns-in_err-node-clause-done g c =
    halts_first g.met.K.Keep.laws _ c.in_err-node.ensures.done
    (λ old at h. rootless_damaged old old at refl h) (grind (arith, root_barred, c.requires))
    c.from_residual.result c.from_residual.ensures.1

pub returns-clause-done : goal.returns-clause-done
returns-clause-done g c =
    let asker = c.args.ask.now.asker.now in
    let path = c.args.ask.now.path.now in
    let node = c.in_ok-node.node in
    tail_provided g.met.K.Keep.laws (done c.in_ok-node.ensures.done) c.put_there.ensures.done
    (λ old mid at are reached h. noted_unread old mid _ at reached.judged.notes h)
    (search (rules, put_root, asker, c.requires, node))
    (λ old mid new more are reached enough. (
      along_there old.read are.numbers path (stored_site path node) reached.found,
      one_of_both old new more enough,
    ))
