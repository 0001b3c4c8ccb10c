use Rattle.std.proofs.lemmas.Result.{IfOk-weaker}
use Rattle.cli_words.proofs.Lines.{with_arg}
use Rattle.cli_words.proofs.line.serve.Goals as goal

pub returns : goal.returns
returns c =
    let one = with_arg c.in_ok-over_file.ensures c.port.ensures c.in_ok-arg.ensures in
    let two = with_arg one c.socket.ensures c.in_ok-arg-2.ensures in
    IfOk-weaker c.arg-3.result _ _ (λ line adds. with_arg two c.count.ensures adds) c.arg-3.ensures
