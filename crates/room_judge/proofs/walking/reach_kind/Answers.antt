use Rattle.std.proofs.Common.{rules, ℕ, List, [], ◌∷◌, ap, length, arith}
use Rattle.room_machine.specs.{Plan.{Check, Item}, Site.Site}
use Rattle.room_judge.{specs.{Judged.of_kind, declared.arrival.Found.Found}, proofs.Calls.done}
use Rattle.room_judge.proofs.{Calls.{finish, then}, Halts.{halts, halts_first}, Ways.not_reached}
use Rattle.room_judge.proofs.Ways.{target_passed, target_refused}
use Rattle.room_judge.proofs.walking.reach_kind.Goals as goal

pub returns-in_err-node-clause-done : goal.returns-in_err-node-clause-done
returns-in_err-node-clause-done g c =
    let items : Site → List Item = grind arith in
    halts_first g.met.K.Keep.laws _ c.in_err-node.ensures.done (λ old at h. h)
    (search (rules, not_reached, items))
    c.from_residual.result c.from_residual.ensures.1

pub returns-in_err-check_kind-clause-done : goal.returns-in_err-check_kind-clause-done
returns-in_err-check_kind-clause-done g c =
    let path = c.args.ask.now.path.now in
    let items : Site → List Item = λ target.
    of_kind c.args.kind target ∷ Check target c.args.mask ∷ [] in
    let found : Found = record { node = c.in_ok-node.node; depth = length c.names.result.now } in
    halts g.met.K.Keep.laws _ (done c.in_ok-node.ensures.done) c.in_err-check_kind.ensures.done
    (λ old mid at are reached never. absurd never)
    (λ old mid new reply are reached judged.
    target_refused c.args.ask.now.asker.now path items old mid new found reply
    (ap (λ (l : List (List ℕ)). length l) c.names.ensures) reached judged)
    c.from_residual-in_err-check_kind.result c.from_residual-in_err-check_kind.ensures.1

pub returns-clause-done : goal.returns-clause-done
returns-clause-done g c =
    let m = g.met.K.Keep in
    let path = c.args.ask.now.path.now in
    let items : Site → List Item = λ target.
    of_kind c.args.kind target ∷ Check target c.args.mask ∷ [] in
    let found : Found = record { node = c.in_ok-node.node; depth = length c.names.result.now } in
    finish m.laws _ (then m.laws (done c.in_ok-node.ensures.done)
    (done c.in_ok-check_kind.ensures.done)
    (λ old mid new reached judged.
    target_passed c.args.ask.now.asker.now path items old mid new found
    (ap (λ (l : List (List ℕ)). length l) c.names.ensures) reached judged)) (λ old new are h. h)
