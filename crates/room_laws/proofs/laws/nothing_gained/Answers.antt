use Rattle.room_laws.proofs.Gained as changed
use Rattle.room_laws.proofs.laws.nothing_gained.Goals as goal

pub returns : goal.returns
returns c = changed.nothing_gained
