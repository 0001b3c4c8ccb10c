use Rattle.std.proofs.Common.{rules, None, length, ap, refl}
use Rattle.room_judge.{specs.Halted.replied, proofs.{Calls.done, Folders.spotted_child}}
use Rattle.room_judge.proofs.{Halts.halts_first, UpTo.tail_provided}
use Rattle.room_desk.proofs.Made.{PutMade.{put_barred, put_in, put_on}, ServedItems.spotted_blames}
use Rattle.room_desk.proofs.{Made.FolderFound.found_folder, Steps.Serving.along_there}
use Rattle.room_desk.proofs.Writes.Sufficing.{can_make, one_of_both}
use Rattle.room_sound.proofs.Blamed.{rootless_damaged}
use Rattle.room_machine.specs.Stored.{stored_site}
use Rattle.room_rows.specs.Rows.{Rows}
use Rattle.room_desk.proofs.making.put_below.Goals as goal

pub returns-in_err-spot-clause-done : goal.returns-in_err-spot-clause-done
returns-in_err-spot-clause-done g c =
    halts_first g.met.K.Keep.laws _ c.in_err-spot.ensures.done
    (λ old at h. rootless_damaged old old at refl h)
    (put_barred c.args.ask.now.asker.now c.args.ask.now.path.now c.args.bytes.now)
    c.from_residual.result c.from_residual.ensures.1

pub returns-in-Some-clause-done : goal.returns-in-Some-clause-done
returns-in-Some-clause-done g c =
    let asker = c.args.ask.now.asker.now in
    let path = c.args.ask.now.path.now in
    let node = c.in-Some.node in
    let spot = λ (old mid : Rows).
    spotted_child asker path c.in_ok-spot.spot.folder c.in_ok-spot.spot.child _ old mid c.in-Some.is in
    tail_provided g.met.K.Keep.laws (done c.in_ok-spot.ensures.done) c.put_there.ensures.done
    (λ old mid at are spotted h. spotted_blames asker path _ old mid at spotted h)
    (λ old mid outcome new are spotted served.
    put_on asker path c.args.bytes.now old mid _ node are (spot old mid spotted) _
    (ap length c.names-depth.ensures) new (replied outcome) served)
    (λ old mid new more are spotted enough. (
      along_there old.read are.numbers path (stored_site path node) (spot old mid spotted).child,
      one_of_both old new more enough,
    ))

pub returns-clause-done : goal.returns-clause-done
returns-clause-done g c =
    let asker = c.args.ask.now.asker.now in
    let path = c.args.ask.now.path.now in
    let folder = c.in_ok-spot.spot.folder in
    let spot = λ (old mid : Rows).
    spotted_child asker path folder c.in_ok-spot.spot.child _ old mid c.in-None.is in
    tail_provided g.met.K.Keep.laws (done c.in_ok-spot.ensures.done) c.put_new.ensures.done
    (λ old mid at are spotted h. spotted_blames asker path _ old mid at spotted h)
    (search (rules, put_in, asker, folder, c.requires, spot))
    (λ old mid new more are spotted enough. (
      can_make path folder.node None _ old refl c.requires
          (found_folder asker path c.requires.some old mid folder None are (spot old mid spotted))
          refl,
      one_of_both old new more enough,
    ))
