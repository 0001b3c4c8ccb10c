use Rattle.std.proofs.lemmas.Result.{IfOk-at_ok, IfOk-weaker}
use Rattle.cli_words.{proofs.Lines.added, specs.Line.IsLine}
use Rattle.cli_words.proofs.line.with.Goals as goal

pub returns : goal.returns
returns c =
    IfOk-weaker c.subcommand.result _ _
    (λ new adds app one is made. added is (IfOk-at_ok (IsLine one) c.in_ok-made.was made) adds)
    c.subcommand.ensures
