use Rattle.std.proofs.Common.{arith, refl}
use Rattle.room_machine.specs.{declared.request.Request.TheVariants.SetOwners, Stored.stored_site}
use Rattle.room_judge.proofs.{Calls.done, Halts.{faults, halts_first}, UpTo.finish_up_to}
use Rattle.room_judge.proofs.UpTo.{then_provided}
use Rattle.room_desk.proofs.{Owned.OwnersSet.owners_set, Steps.Serving.{along_there, not_served}}
use Rattle.room_desk.proofs.{Steps.Serving.reached_damaged, Writes.Sufficing.one_of_both}
use Rattle.room_sound.proofs.Blamed.{rootless_damaged}
use Rattle.room_desk.proofs.owning.set_owners.Goals as goal

pub returns-in_err-node-clause-done : goal.returns-in_err-node-clause-done
returns-in_err-node-clause-done g c =
    let asker = c.args.ask.now.asker.now in
    let path = c.args.ask.now.path.now in
    halts_first g.met.K.Keep.laws _ c.in_err-node.ensures.done
    (λ old at h. rootless_damaged old old at refl h)
    (λ old new reply are reached.
    not_served asker path (SetOwners path c.args.owners.now) _
    (λ along content. refl) (λ site. refl) old new reply are
    (rw c.write_owner.ensures at reached))
    c.from_residual.result c.from_residual.ensures.1

pub returns-in_err-set_at-clause-done : goal.returns-in_err-set_at-clause-done
returns-in_err-set_at-clause-done g c =
    faults g.met.K.Keep.laws (done c.in_ok-node.ensures.done) c.in_err-set_at.ensures.done
    (grind (arith, reached_damaged, c.in_ok-node.node))
    c.from_residual-in_err-set_at.result c.from_residual-in_err-set_at.ensures.1

pub returns-clause-done : goal.returns-clause-done
returns-clause-done g c =
    let m = g.met.K.Keep in
    let asker = c.args.ask.now.asker.now in
    let path = c.args.ask.now.path.now in
    let owners = c.args.owners.now in
    finish_up_to m.laws _ (then_provided m.laws (done c.in_ok-node.ensures.done)
    (done c.in_ok-set_at.ensures.done)
    (λ old mid new are reached set.
    rw set.0 (owners_set asker path owners old mid new c.in_ok-node.node are
    (rw c.write_owner.ensures at reached) set.1))
    (λ old mid new more are reached enough. (
      along_there old.read are.numbers path (stored_site path c.in_ok-node.node) reached.found,
      one_of_both old new more enough,
    )))
    (λ old new are h. h)
