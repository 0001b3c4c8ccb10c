use Rattle.room_turns.proofs.Reviewed as shown
use Rattle.room_turns.proofs.laws.rows_are_the_review.Goals as goal

pub returns : goal.returns
returns c = shown.rows_are_the_review
