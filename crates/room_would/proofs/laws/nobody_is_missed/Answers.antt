use Rattle.room_would.proofs.Unknown.{nobody_is_missed}
use Rattle.room_would.proofs.laws.nobody_is_missed.Goals as goal

pub returns : goal.returns
returns c = nobody_is_missed
