use Rattle.std.proofs.Common.{Ok, take, true}
use Rattle.room_memory.specs.Memory.{Inherits}
use Rattle.room_memory.proofs.memory.inherit_all.Given as goal

-- the objects so far are there, and have the entries
abbrev pub invariant-ids : goal.invariant-ids
invariant-ids l =
    Inherits (take l.id-index l.ids) l.fn.which l.fn.entries l.fn.nodes l.nodes (Ok true)
