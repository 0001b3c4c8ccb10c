use Rattle.room_laws.proofs.Unseen as unseen
use Rattle.room_laws.proofs.laws.unseen.Goals as goal

pub returns : goal.returns
returns c = unseen.unseen
