use Rattle.std.{proofs.Common.{rules, ℕ, ◌≡◌, ◌+◌, length, arith}, specs.Prelude.◌-◌}
use Rattle.room_judge.proofs.{Calls.{done, tail}, Folders.{spot_barred, spot_follows}}
use Rattle.room_judge.proofs.{Halts.halts_first, Ways.reached_blames}
use Rattle.room_judge.proofs.spotting.to_spot.Goals as goal

pub returns-in_err-node-clause-done : goal.returns-in_err-node-clause-done
returns-in_err-node-clause-done g c =
    let path = c.args.ask.now.path.now in
    let depth : ℕ = length c.names.result.now - 1 in
    let size : length c.names.result.now ≡ length path = grind (arith, c.names.ensures) in
    let deep : length path ≡ depth + 1 = omega arith in
    halts_first g.met.K.Keep.laws _ c.in_err-node.ensures.done (λ old at h. h)
    (search (rules, spot_barred, deep))
    c.from_residual.result c.from_residual.ensures.1

pub returns-clause-done : goal.returns-clause-done
returns-clause-done g c =
    let asker = c.args.ask.now.asker.now in
    let path = c.args.ask.now.path.now in
    let node = c.in_ok-node.node in
    let depth : ℕ = length c.names.result.now - 1 in
    let size : length c.names.result.now ≡ length path = grind (arith, c.names.ensures) in
    let deep : length path ≡ depth + 1 = omega arith in
    tail g.met.K.Keep.laws (done c.in_ok-node.ensures.done) c.spot_in.ensures.done
    (grind (arith, reached_blames, asker, depth, path, node))
    (search (rules, spot_follows, asker, deep, node))
