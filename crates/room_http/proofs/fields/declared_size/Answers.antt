use Rattle.std.proofs.Common.{rules}
use Rattle.room_http.proofs.fields.declared_size.Goals as goal

pub returns-in_default-clause-value : goal.returns-in_default-clause-value
returns-in_default-clause-value c = search rules
