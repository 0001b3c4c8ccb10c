use Rattle.std.proofs.Common.{arith, rules}
use Rattle.room_judge.proofs.{Calls.done, Judging.blames_first, UpTo.tail_provided}
use Rattle.room_desk.proofs.{Made.ServedItems.put_behind, Writes.Sufficing.document_passed}
use Rattle.room_desk.proofs.making.put_there.Goals as goal

pub returns-clause-done : goal.returns-clause-done
returns-clause-done g c =
    let asker = c.args.ask.now.asker.now in
    let target = c.args.target.now in
    tail_provided g.met.K.Keep.laws (done c.in_ok-check_kind.ensures.done) c.put_bytes.ensures.done
    (λ old mid at are judged h. blames_first asker _ _ old mid at judged h)
    (search (rules, put_behind, asker, c.write_data-mask.ensures, c.as_slice.ensures))
    (grind (arith, target.node, document_passed, asker, target))
