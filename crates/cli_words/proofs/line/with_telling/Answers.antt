use Rattle.std.proofs.lemmas.Result.{IfOk-weaker}
use Rattle.cli_words.proofs.line.with_telling.Goals as goal

pub returns : goal.returns
returns c =
    let one = c.in_ok-line-2.ensures _ _ c.in_ok-line.ensures c.over_file.ensures in
    let two = c.in_ok-line-3.ensures _ _ one c.over_file-2.ensures in
    let three = c.in_ok-line-4.ensures _ _ two c.over_file-3.ensures in
    let four = c.in_ok-line-5.ensures _ _ three c.get.ensures in
    IfOk-weaker c.with-5.result _ _ (λ line adds. adds _ _ four c.review.ensures)
    c.with-5.ensures
