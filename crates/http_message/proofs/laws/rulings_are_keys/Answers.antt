use Rattle.http_message.proofs.RulingKeys.{are_keys}
use Rattle.http_message.proofs.laws.rulings_are_keys.Goals as goal

pub returns : goal.returns
returns c = are_keys
