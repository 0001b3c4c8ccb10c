use Rattle.std.proofs.Common.{rules, ℕ, ◌≡◌, ◌≤◌, false, nat_lt, length, subst}
use Rattle.std.proofs.lemmas.Bool.{le-ltb}
use Rattle.room_judge.proofs.{Calls.done, Judging.blames_first, UpTo.tail_provided}
use Rattle.room_desk.proofs.Made.ServedItems.{added_behind}
use Rattle.room_desk.proofs.making.put_new.Goals as goal

pub returns-clause-done : goal.returns-clause-done
returns-clause-done g c =
    let asker = c.args.ask.now.asker.now in
    let child = c.args.child.now in
    let few : nat_lt 1048576 (length child.bytes.now) ≡ false = le-ltb 1048576
    (length child.bytes.now)
    (subst (λ (n : ℕ). n ≤ 1048576) c.len-too_many.ensures c.if-too_many.false) in
    tail_provided g.met.K.Keep.laws (done c.in_ok-check.ensures.done) c.add_child.ensures.done
    (λ old mid at are judged h. blames_first asker _ _ old mid at judged h)
    (search (rules, added_behind, asker, c.write_data.ensures, few))
    (λ old mid new more are judged enough. enough)
