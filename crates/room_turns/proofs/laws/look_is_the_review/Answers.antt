use Rattle.room_turns.proofs.Looked as shown
use Rattle.room_turns.proofs.laws.look_is_the_review.Goals as goal

pub returns : goal.returns
returns c = shown.look_is_the_review
