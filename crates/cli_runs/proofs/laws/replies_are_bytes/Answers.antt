use Rattle.cli_runs.proofs.Sent.{exchanges_are_bytes}
use Rattle.cli_runs.proofs.laws.replies_are_bytes.Goals as goal

pub returns : goal.returns
returns c = exchanges_are_bytes
