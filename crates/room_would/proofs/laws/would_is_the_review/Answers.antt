use Rattle.room_would.proofs.Reviewed.{would_is_the_review}
use Rattle.room_would.proofs.laws.would_is_the_review.Goals as goal

pub returns : goal.returns
returns c = would_is_the_review
