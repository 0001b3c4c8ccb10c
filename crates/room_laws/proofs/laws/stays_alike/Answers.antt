use Rattle.room_laws.proofs.StaysAlike as unseen
use Rattle.room_laws.proofs.laws.stays_alike.Goals as goal

pub returns : goal.returns
returns c = unseen.stays_alike
