use Rattle.std.proofs.{Common.arith, lemmas.Result.IfOk-weaker}
use Rattle.room_review.proofs.Listed.{stranger_last}
use Rattle.room_review.proofs.users.stranger_to.Goals as goal

pub returns : goal.returns
returns c =
    let names = c.as_slice-names.result.now in
    IfOk-weaker c.numbered-2.result _ _
    (grind (arith, names, c.as_slice-names.ensures, stranger_last, c.loop-number.invariant))
    c.numbered-2.ensures
