use Rattle.std.proofs.lemmas.Result.{IfOk-weaker}
use Rattle.cli_words.proofs.Lines.{added}
use Rattle.cli_words.proofs.line.command_line.Goals as goal

pub returns : goal.returns
returns c =
    let reset = c.in_ok-reset.ensures in
    let one = added c.in_ok-with_telling.ensures reset.2 c.in_ok-line.ensures in
    let two = c.in_ok-line-2.ensures _ _ one c.over_file.ensures in
    IfOk-weaker c.with-2.result _ _
    (λ line adds. (reset.0, reset.1, adds _ _ two c.over_file-2.ensures)) c.with-2.ensures
