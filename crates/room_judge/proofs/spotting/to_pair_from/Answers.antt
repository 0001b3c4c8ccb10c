use Rattle.std.proofs.Common.{rules}
use Rattle.room_judge.{specs.Halted.both_with, proofs.{Calls.done, Folders.both_found}}
use Rattle.room_judge.proofs.{Folders.pair_barred, Halts.{comes_to, halts_first}}
use Rattle.room_judge.proofs.spotting.to_pair_from.Goals as goal

pub returns-in_err-spot-clause-done : goal.returns-in_err-spot-clause-done
returns-in_err-spot-clause-done g c =
    halts_first g.met.K.Keep.laws _ c.in_err-spot.ensures.done (λ old at h. h)
    (search (rules, pair_barred, c.requires))
    c.from_residual.result c.from_residual.ensures.1

pub returns-clause-done : goal.returns-clause-done
returns-clause-done g c =
    let path = c.args.ask.now.path.now in
    let spot = c.in_ok-spot.spot in
    comes_to g.met.K.Keep.laws (done c.in_ok-spot.ensures.done) c.both_at.result
    (both_with path spot.folder spot.child) c.both_at.ensures
    (λ old new are spotted is.
    both_found c.args.ask.now.asker.now path c.requires old new spot.folder spot.child (spotted is))
