use Rattle.room_turns.proofs.Owned as shown
use Rattle.room_turns.proofs.laws.own_rows_are_the_review.Goals as goal

pub returns : goal.returns
returns c = shown.own_rows_are_the_review
