use Rattle.std.proofs.Common.{ℕ, Bool, ◌≡◌, ◌+◌, Some, None, length, arith, Ok, Err}
use Rattle.std.specs.Prelude.{◌-◌}
use Rattle.room_machine.specs.Site.{Site, front}
use Rattle.room_judge.{specs.Stored.found_site, proofs.{Calls.{done, finish, then}, Halts.halts}}
use Rattle.room_judge.proofs.{Halts.halts_first, Ways.not_reached}
use Rattle.room_desk.{specs.Moving.{at_place, begins}, proofs.Moves.MovingWays.front_reached}
use Rattle.room_desk.proofs.Moves.MovingWays.{place_reached}
use Rattle.room_desk.proofs.moving.reach_place.Goals as goal

pub returns-in_err-node-clause-done : goal.returns-in_err-node-clause-done
returns-in_err-node-clause-done g c =
    let asker = c.args.moving.now.ask.now.asker.now in
    let path = c.args.moving.now.ask.now.path.now in
    let to = c.args.to.now in
    let depth : ℕ = length c.names.result.now - 1 in
    let size : length c.names.result.now ≡ length to = grind (arith, c.names.ensures) in
    let deep : length to ≡ depth + 1 = omega arith in
    halts_first g.met.K.Keep.laws _ c.in_err-node.ensures.done (λ old at h. h)
    (λ old new reply are reached rooted.
    not_reached asker (front to)
    (at_place old.read to (begins path (front to))
    (found_site path c.args.moving.now.target.now) (found_site path c.args.moving.now.from.now)) old
    new reply
    (front_reached asker to depth (Err reply) old new deep (reached rooted)))
    c.from_residual.result c.from_residual.ensures.1

pub returns-in_err-check_place-clause-done : goal.returns-in_err-check_place-clause-done
returns-in_err-check_place-clause-done g c =
    let asker = c.args.moving.now.ask.now.asker.now in
    let path = c.args.moving.now.ask.now.path.now in
    let to = c.args.to.now in
    let below : Bool = begins path (front to) in
    let target : Site = found_site path c.args.moving.now.target.now in
    let from : Site = found_site path c.args.moving.now.from.now in
    let node = c.in_ok-node.node in
    let depth : ℕ = length c.names.result.now - 1 in
    let size : length c.names.result.now ≡ length to = grind (arith, c.names.ensures) in
    let deep : length to ≡ depth + 1 = omega arith in
    halts g.met.K.Keep.laws _ (done c.in_ok-node.ensures.done) c.in_err-check_place.ensures.done
    (grind arith)
    (λ old mid new reply are reached judged rooted.
    place_reached asker to below target from old mid new node depth (Some reply) deep
    (front_reached asker to depth (Ok node) old mid deep (reached rooted)) judged)
    c.from_residual-in_err-check_place.result c.from_residual-in_err-check_place.ensures.1

pub returns-clause-done : goal.returns-clause-done
returns-clause-done g c =
    let m = g.met.K.Keep in
    let asker = c.args.moving.now.ask.now.asker.now in
    let path = c.args.moving.now.ask.now.path.now in
    let to = c.args.to.now in
    let below : Bool = begins path (front to) in
    let target : Site = found_site path c.args.moving.now.target.now in
    let from : Site = found_site path c.args.moving.now.from.now in
    let node = c.in_ok-node.node in
    let depth : ℕ = length c.names.result.now - 1 in
    let size : length c.names.result.now ≡ length to = grind (arith, c.names.ensures) in
    let deep : length to ≡ depth + 1 = omega arith in
    finish m.laws _ (then m.laws (done c.in_ok-node.ensures.done)
    (done c.in_ok-check_place.ensures.done)
    (λ old mid new reached judged rooted.
    place_reached asker to below target from old mid new node depth None deep
    (front_reached asker to depth (Ok node) old mid deep (reached rooted))
    judged)) (λ old new are h. h)
