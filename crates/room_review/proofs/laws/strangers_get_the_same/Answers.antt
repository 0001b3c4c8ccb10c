use Rattle.room_review.proofs.Everywhere as everywhere
use Rattle.room_review.proofs.laws.strangers_get_the_same.Goals as goal

pub returns : goal.returns
returns c = everywhere.strangers_get_the_same
