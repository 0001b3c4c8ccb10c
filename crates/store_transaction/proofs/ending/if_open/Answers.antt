use Rattle.std.proofs.{Common.arith, lemmas.Result.err_from_is_err_and}
use Rattle.store_transaction.proofs.ending.if_open.Goals as goal

pub returns-in_err-answer-clause-stands : goal.returns-in_err-answer-clause-stands
returns-in_err-answer-clause-stands g c =
    grind (arith, err_from_is_err_and, c.from_residual.ensures.1, c.in_err-answer.was)

pub returns-in_err-test_open-clause-stands : goal.returns-in_err-test_open-clause-stands
returns-in_err-test_open-clause-stands g c =
    let left = c.from_residual-in_err-test_open in
    let is = err_from_is_err_and left.result left.ensures.1 in
    rw (c.in_ok-answer.was, is.1, is.2) (λ _. c.in_err-test_open.ensures.unblamed)
