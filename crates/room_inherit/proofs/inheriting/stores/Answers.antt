use Rattle.std.proofs.Common.{arith}
use Rattle.room_inherit.proofs.Comparing.{swapped}
use Rattle.room_inherit.proofs.inheriting.stores.Goals as goal

pub returns : goal.returns
returns c = grind (arith, c.is_same.ensures, c.inh.ensures, swapped)
