use Rattle.std.proofs.Common.{rules, [], ◌∷◌, ◌++◌, None, Some}
use Rattle.room_machine.specs.{Plan.{Check, Deletion, Item, right_to_add}, Site.{Site, front}}
use Rattle.room_judge.{specs.{Judged.through, Stored.found_site}, proofs.Calls.{done, tail, then}}
use Rattle.room_judge.proofs.{Halts.{halts, halts_first}, Judging.{blames_first, fails_first}}
use Rattle.room_judge.proofs.Judging.{passes_first}
use Rattle.room_desk.{specs.Moving.{begins, free_place}, proofs.Moves.FreePlaces.free_after}
use Rattle.room_desk.proofs.moving.check_place.Goals as goal

pub returns-in_err-pass_through-clause-done : goal.returns-in_err-pass_through-clause-done
returns-in_err-pass_through-clause-done g c =
    let folder = c.args.folder.now in
    halts_first g.met.K.Keep.laws _ c.in_err-pass_through.ensures.done
    (λ old at never. absurd never) (search (rules, fails_first, folder.node))
    c.from_residual.result c.from_residual.ensures.1

pub returns-in_err-check_deletion-clause-done : goal.returns-in_err-check_deletion-clause-done
returns-in_err-check_deletion-clause-done g c =
    let asker = c.args.moving.now.ask.now.asker.now in
    let path = c.args.moving.now.ask.now.path.now in
    let to = c.args.to.now in
    let folder = c.args.folder.now in
    let target = c.args.moving.now.target.now in
    let site : Site = found_site to folder in
    let leave : Item = Deletion (found_site path target)
    (found_site path c.args.moving.now.from.now) in
    let come : Item = Check site (right_to_add target.node ∷ []) in
    halts g.met.K.Keep.laws _ (done c.in_ok-pass_through.ensures.done)
    c.in_err-check_deletion.ensures.done (λ old mid at are passed never. absurd never)
    (λ old mid new reply are passed judged.
    passes_first asker (through site)
    (leave ∷ come ∷ free_place old.read to (begins path (front to)) folder.node) old mid new
    (Some reply) passed
    (fails_first asker (leave ∷ [])
    (come ∷ free_place old.read to (begins path (front to)) folder.node) mid new reply judged))
    c.from_residual-in_err-check_deletion.result c.from_residual-in_err-check_deletion.ensures.1

pub returns-in_err-check-clause-done : goal.returns-in_err-check-clause-done
returns-in_err-check-clause-done g c =
    let m = g.met.K.Keep in
    let asker = c.args.moving.now.ask.now.asker.now in
    let path = c.args.moving.now.ask.now.path.now in
    let to = c.args.to.now in
    let folder = c.args.folder.now in
    let target = c.args.moving.now.target.now in
    let site : Site = found_site to folder in
    let leave : Item = Deletion (found_site path target)
    (found_site path c.args.moving.now.from.now) in
    halts m.laws _ (then m.laws (done c.in_ok-pass_through.ensures.done)
    (done c.in_ok-check_deletion.ensures.done) (search (rules, passes_first, asker, leave)))
    c.in_err-check.ensures.done (λ old mid at are passed never. absurd never)
    (λ old mid new reply are passed judged.
    passes_first asker (through site ++ leave ∷ [])
    (Check site (right_to_add target.node ∷ [])
    ∷ free_place old.read to (begins path (front to)) folder.node) old mid new (Some reply) passed
    (fails_first asker (Check site (right_to_add target.node ∷ []) ∷ [])
    (free_place old.read to (begins path (front to)) folder.node) mid new reply
    (rw c.right_to_add-right.ensures at judged)))
    c.from_residual-in_err-check.result c.from_residual-in_err-check.ensures.1

pub returns-clause-done : goal.returns-clause-done
returns-clause-done g c =
    let m = g.met.K.Keep in
    let asker = c.args.moving.now.ask.now.asker.now in
    let path = c.args.moving.now.ask.now.path.now in
    let to = c.args.to.now in
    let folder = c.args.folder.now in
    let target = c.args.moving.now.target.now in
    let from : Site = found_site path c.args.moving.now.from.now in
    let site : Site = found_site to folder in
    let leave : Item = Deletion (found_site path target) from in
    tail m.laws (then m.laws (then m.laws (done c.in_ok-pass_through.ensures.done)
    (done c.in_ok-check_deletion.ensures.done) (search (rules, passes_first, asker, leave)))
    (done c.in_ok-check.ensures.done)
    (λ old mid new passed judged.
    passes_first asker (through site ++ leave ∷ [])
    (Check site (right_to_add target.node ∷ []) ∷ []) old mid new None passed
    (rw c.right_to_add-right.ensures at judged)))
    c.check_free.ensures.done (λ old mid at passed h. blames_first asker _ None old mid at passed h)
    (search (rules, free_after, folder.node, asker, from))
