use Rattle.room_laws.proofs.Told as unseen
use Rattle.room_laws.proofs.laws.same_full_lists.Goals as goal

pub returns : goal.returns
returns c = unseen.same_full_lists
