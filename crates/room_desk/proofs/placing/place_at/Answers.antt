use Rattle.std.proofs.Common.{arith, rules}
use Rattle.room_judge.proofs.Calls.{none_done, fails, done, of_change, of_write}
use Rattle.room_judge.proofs.UpTo.{finish_up_to, then_share, then_unsaid}
use Rattle.room_machine.specs.declared.reply.Reply.TheVariants.{Done}
use Rattle.room_desk.proofs.Placed.PlacingCalls.{first_done, first_fails, second_done, second_fails}
use Rattle.room_desk.proofs.{Placed.PlacingCalls.unplaced, Writes.Placing.{first_share, one_placed}}
use Rattle.room_desk.proofs.Writes.Placing.{second_share}
use Rattle.room_desk.proofs.placing.place_at.Goals as goal

pub returns-in_err-set_place-clause-done : goal.returns-in_err-set_place-clause-done
returns-in_err-set_place-clause-done g c =
    let m = g.met.K.Keep in
    fails m.laws (none_done m.laws c.args.keep.now) (of_write c.in_err-set_place.ensures.written)
    (grind (arith, unplaced))
    c.from_residual.result c.from_residual.ensures.1

pub returns-in_err-renew_list-clause-done : goal.returns-in_err-renew_list-clause-done
returns-in_err-renew_list-clause-done g c =
    let m = g.met.K.Keep in
    fails m.laws (done (of_write c.in_ok-set_place.ensures.written))
    c.in_err-renew_list.ensures.done (search (rules, first_fails))
    c.from_residual-in_err-renew_list.result c.from_residual-in_err-renew_list.ensures.1

pub returns-in_err-renew_list-2-clause-done : goal.returns-in_err-renew_list-2-clause-done
returns-in_err-renew_list-2-clause-done g c =
    let m = g.met.K.Keep in
    fails m.laws
    (then_unsaid m.laws (done (of_write c.in_ok-set_place.ensures.written))
    (done c.in_ok-renew_list.ensures.done)
    (λ old mid new places renews.
    first_done c.args.target.now c.args.folder.now c.args.name.now old mid new places renews))
    c.in_err-renew_list-2.ensures.done
    (λ old mid at first h.
    second_fails c.args.target.now c.args.folder.now c.args.name.now old mid at first h)
    c.from_residual-in_err-renew_list-2.result c.from_residual-in_err-renew_list-2.ensures.1

pub returns-clause-done : goal.returns-clause-done
returns-clause-done g c =
    let m = g.met.K.Keep in
    let target = c.args.target.now in
    let folder = c.args.folder.now in
    let name = c.args.name.now in
    finish_up_to m.laws Done
    (then_share m.laws
    (then_share m.laws
    (done (of_change c.in_ok-set_place.ensures.written
    (λ old x new more places enough. one_placed target folder name old new more places enough)))
    (done c.in_ok-renew_list.ensures.done)
    (λ old mid new places renews. first_done target folder name old mid new places renews)
    (λ old mid new more are places renews enough.
    first_share target folder name old mid new more places enough))
    (done c.in_ok-renew_list-2.ensures.done)
    (λ old mid new first renews. second_done target folder name old mid new first renews)
    (λ old mid new more are first renews enough.
    second_share target folder name old mid new more first renews enough))
    (λ old new are placed. placed)
