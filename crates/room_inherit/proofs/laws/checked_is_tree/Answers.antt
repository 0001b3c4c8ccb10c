use Rattle.room_inherit.proofs.NoFault.{checked_is_tree}
use Rattle.room_inherit.proofs.laws.checked_is_tree.Goals as goal

pub returns : goal.returns
returns c = checked_is_tree
