use Rattle.std.proofs.Common.{arith}
use Rattle.room_import.proofs.Fields.{has_first, has_second, two_there}
use Rattle.room_import.proofs.rows.two_fields.Goals as goal

pub returns-in_err-group : goal.returns-in_err-group
returns-in_err-group c = grind (arith, has_first, c.in_err-group.ensures.value)

pub returns-in_err-user : goal.returns-in_err-user
returns-in_err-user c = grind (arith, has_second, c.in_err-user.ensures.value)

pub returns : goal.returns
returns c = grind (arith, two_there, c.in_ok-group.ensures.value, c.in_ok-user.ensures.value)
