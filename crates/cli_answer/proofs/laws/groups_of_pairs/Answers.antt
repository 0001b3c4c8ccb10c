use Rattle.cli_answer.proofs.Distinct.{groups_are}
use Rattle.cli_answer.proofs.laws.groups_of_pairs.Goals as goal

pub returns : goal.returns
returns c = groups_are
