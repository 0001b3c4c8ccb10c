use Rattle.std.proofs.Common.{rules}
use Rattle.room_memory.proofs.Paired.{before_is}
use Rattle.room_memory.proofs.lists.is_before.Goals as goal

pub returns : goal.returns
returns c = search (rules, c.is_lt.ensures, c.compare.ensures, before_is)
