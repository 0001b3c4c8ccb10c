use Rattle.std.proofs.lemmas.Result.{IfOk-weaker}
use Rattle.cli_words.proofs.Lines.{with_arg}
use Rattle.cli_words.proofs.line.init.Goals as goal

pub returns : goal.returns
returns c =
    let one = with_arg c.in_ok-over_file.ensures c.wanted.ensures c.in_ok-arg.ensures in
    IfOk-weaker c.arg-2.result _ _ (λ line adds. with_arg one c.wanted-2.ensures adds)
    c.arg-2.ensures
