use Rattle.std.proofs.Common.{rules}
use Rattle.room_memory.proofs.Placing.{puts}
use Rattle.room_memory.proofs.places.Places.put.Goals as goal

pub returns-clause-ok : goal.returns-clause-ok
returns-clause-ok c = search (rules, puts, c.in_ok-insert.ensures.entries)
