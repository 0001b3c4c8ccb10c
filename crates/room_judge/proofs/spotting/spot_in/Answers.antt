use Rattle.std.proofs.Common.{◌<◌, length, arith}
use Rattle.room_judge.proofs.{Calls.{done, finish, of_read, then}, Folders.spot_found, Halts.faults}
use Rattle.room_judge.proofs.{Judging.blames_first, Ways.name_read}
use Rattle.room_judge.proofs.spotting.spot_in.Goals as goal

pub returns-in_err-child-clause-done : goal.returns-in_err-child-clause-done
returns-in_err-child-clause-done g c =
    faults g.met.K.Keep.laws (done c.in_ok-pass_through.ensures.done)
    (of_read c.in_err-child.ensures.read)
    (λ old mid at are judged h. blames_first c.args.ask.now.asker.now _ _ old mid at judged h)
    c.from_residual-in_err-child.result c.from_residual-in_err-child.ensures.1

pub returns-clause-done : goal.returns-clause-done
returns-clause-done g c =
    let m = g.met.K.Keep in
    let path = c.args.ask.now.path.now in
    let folder = c.args.folder in
    let below : folder.depth < length path = omega arith in
    let named =
    name_read path c.names.result.now folder.depth c.index-names-folder.result
    c.as_str.result.now c.names.ensures below c.index-names-folder.is c.as_str.ensures in
    finish m.laws _ (then m.laws (done c.in_ok-pass_through.ensures.done)
    (done (of_read c.in_ok-child.ensures.read))
    (grind (arith, spot_found, path, folder, c.in_ok-child.child, folder.node.id, named)))
    (λ old new are h. h)
