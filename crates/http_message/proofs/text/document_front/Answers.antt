use Rattle.std.proofs.Common.{arith}
use Rattle.http_message.proofs.Fronts.{head-and-body, then-body}
use Rattle.http_message.proofs.text.document_front.Goals as goal

pub returns : goal.returns
returns c = grind (arith, then-body, head-and-body, c.print_head.ensures)
