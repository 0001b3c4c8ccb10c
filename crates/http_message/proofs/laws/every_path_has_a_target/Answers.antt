use Rattle.http_message.proofs.Targets.{has_target}
use Rattle.http_message.proofs.laws.every_path_has_a_target.Goals as goal

pub returns : goal.returns
returns c = has_target c.path_reads_back.ensures
