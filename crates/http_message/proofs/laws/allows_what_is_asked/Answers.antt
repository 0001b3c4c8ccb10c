use Rattle.http_message.proofs.Tables.{allows}
use Rattle.http_message.proofs.laws.allows_what_is_asked.Goals as goal

pub returns : goal.returns
returns c = allows
