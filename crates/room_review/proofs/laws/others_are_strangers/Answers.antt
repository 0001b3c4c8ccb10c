use Rattle.room_review.proofs.Others as others
use Rattle.room_review.proofs.laws.others_are_strangers.Goals as goal

pub returns : goal.returns
returns c = others.others_are_strangers
