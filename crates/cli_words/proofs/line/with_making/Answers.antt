use Rattle.std.proofs.lemmas.Result.{IfOk-weaker}
use Rattle.cli_words.proofs.Lines.{added}
use Rattle.cli_words.proofs.line.with_making.Goals as goal

pub returns : goal.returns
returns c =
    let one = added c.program.ensures c.check.ensures c.in_ok-line.ensures in
    let two = added one c.would.ensures c.in_ok-line-2.ensures in
    let three = c.in_ok-line-3.ensures _ _ two c.init.ensures in
    let four = c.in_ok-line-4.ensures _ _ three c.serve.ensures in
    IfOk-weaker c.with-3.result _ _ (λ line adds. adds _ _ four c.groups.ensures)
    c.with-3.ensures
