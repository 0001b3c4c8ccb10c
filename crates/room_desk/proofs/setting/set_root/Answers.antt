use Rattle.room_judge.proofs.{Calls.{done, none_done, of_read}, Halts.faults, UpTo.tail_provided}
use Rattle.room_desk.proofs.{Lists.SetRequest.found_root, Writes.Sufficing.each_of_both}
use Rattle.room_desk.proofs.Writes.Sufficing.{stands_along}
use Rattle.room_sound.proofs.Blamed.{rootless_damaged}
use Rattle.room_desk.proofs.setting.set_root.Goals as goal

pub returns-in_err-node-clause-done : goal.returns-in_err-node-clause-done
returns-in_err-node-clause-done g c =
    let m = g.met.K.Keep in
    faults m.laws (none_done m.laws c.args.keep.now) (of_read c.in_err-node.ensures.read)
    (λ old mid at are same h. rootless_damaged old mid at same h)
    c.from_residual.result c.from_residual.ensures.1

pub returns-clause-done : goal.returns-clause-done
returns-clause-done g c =
    let asker = c.args.ask.now.asker.now in
    let path = c.args.ask.now.path.now in
    tail_provided g.met.K.Keep.laws (done (of_read c.in_ok-node.ensures.read))
    c.set_allowed.ensures.done
    (λ old mid at are both fails.
    fails old (found_root asker path c.in_ok-node.node old mid c.requires are both.0 both.1))
    (λ old mid outcome new are both sets.
    sets old (found_root asker path c.in_ok-node.node old mid c.requires are both.0 both.1))
    (λ old mid new more are both enough. let node = c.in_ok-node.node in (
      stands_along path node old are
          (found_root asker path node old mid c.requires are both.0 both.1).reached.found,
      each_of_both c.args.which old new more enough,
    ))
