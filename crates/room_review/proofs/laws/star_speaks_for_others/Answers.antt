use Rattle.room_review.proofs.Starred as starred
use Rattle.room_review.proofs.laws.star_speaks_for_others.Goals as goal

pub returns : goal.returns
returns c = starred.star_speaks_for_others
