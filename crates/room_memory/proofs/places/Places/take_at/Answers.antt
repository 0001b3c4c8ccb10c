use Rattle.std.proofs.Common.{rules}
use Rattle.room_memory.proofs.Placing.{takes}
use Rattle.room_memory.proofs.places.Places.take_at.Goals as goal

pub returns : goal.returns
returns c = search (rules, takes, c.remove.ensures.entries)
