use Rattle.room_inherit.proofs.Enough.{enough_steps}
use Rattle.room_inherit.proofs.laws.enough_steps.Goals as goal

pub returns : goal.returns
returns c = enough_steps
