use Rattle.room_laws.proofs.Behind as unseen
use Rattle.room_laws.proofs.laws.unseen_behind.Goals as goal

pub returns : goal.returns
returns c = unseen.unseen_behind
