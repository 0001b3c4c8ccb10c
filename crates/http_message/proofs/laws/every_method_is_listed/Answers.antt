use Rattle.http_message.proofs.Tables.{lists_all}
use Rattle.http_message.proofs.laws.every_method_is_listed.Goals as goal

pub returns : goal.returns
returns c = lists_all
