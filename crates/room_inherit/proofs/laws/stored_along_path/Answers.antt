use Rattle.room_inherit.proofs.Along as stored
use Rattle.room_inherit.proofs.laws.stored_along_path.Goals as goal

pub returns : goal.returns
returns c = stored.stored_along_path
