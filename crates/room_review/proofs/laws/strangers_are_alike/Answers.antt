use Rattle.room_review.proofs.Strangers as strangers
use Rattle.room_review.proofs.laws.strangers_are_alike.Goals as goal

pub returns : goal.returns
returns c = strangers.strangers_alike
