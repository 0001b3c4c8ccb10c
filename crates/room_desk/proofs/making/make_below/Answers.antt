use Rattle.std.{proofs.Common.refl, specs.Prelude.is_some}
use Rattle.room_judge.{specs.Halted.replied, proofs.{Calls.done, Halts.halts_first}}
use Rattle.room_judge.proofs.UpTo.{tail_provided}
use Rattle.room_desk.proofs.Made.{FolderMade.{folder_barred, make_in}, ServedItems.spotted_blames}
use Rattle.room_desk.proofs.{Made.FolderFound.found_folder, Writes.Sufficing.{can_make, none_if}}
use Rattle.room_desk.proofs.Writes.Sufficing.{one_of_both}
use Rattle.room_sound.proofs.Blamed.{rootless_damaged}
use Rattle.room_desk.proofs.making.make_below.Goals as goal

pub returns-in_err-spot-clause-done : goal.returns-in_err-spot-clause-done
returns-in_err-spot-clause-done g c =
    halts_first g.met.K.Keep.laws _ c.in_err-spot.ensures.done
    (λ old at h. rootless_damaged old old at refl h)
    (folder_barred c.args.ask.now.asker.now c.args.ask.now.path.now c.requires.some)
    c.from_residual.result c.from_residual.ensures.1

pub returns-clause-done : goal.returns-clause-done
returns-clause-done g c =
    let asker = c.args.ask.now.asker.now in
    let path = c.args.ask.now.path.now in
    let name = c.args.name.now in
    let folder = c.in_ok-spot.spot.folder in
    let child = c.in_ok-spot.spot.child in
    tail_provided g.met.K.Keep.laws (done c.in_ok-spot.ensures.done) c.make_new.ensures.done
    (λ old mid at are spotted h. spotted_blames asker path _ old mid at spotted h)
    (λ old mid outcome new are spotted served.
    make_in asker path old mid folder child name c.requires are spotted (is_some child) refl new
    (replied outcome) (rw c.new-bytes.ensures at served))
    (λ old mid new more are spotted enough. (
      λ none. can_make path folder.node child _ old refl c.requires
          (found_folder asker path c.requires.some old mid folder child are spotted)
          (none_if child none),
      one_of_both old new more enough,
    ))
