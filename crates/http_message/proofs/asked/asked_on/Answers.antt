use Rattle.std.proofs.Common.{rules}
use Rattle.http_message.proofs.asked.asked_on.Goals as goal

pub returns-in_err-request : goal.returns-in_err-request
returns-in_err-request c = search rules
