use Rattle.std.proofs.Common.{rules}
use Rattle.room_memory.proofs.places.Places.move_to.Goals as goal

pub returns-clause-ok : goal.returns-clause-ok
returns-clause-ok c = search (rules, c.in_ok-put.ensures.ok, c.take.ensures)
