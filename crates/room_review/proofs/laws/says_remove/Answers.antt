use Rattle.room_review.proofs.Ways as ways
use Rattle.room_review.proofs.laws.says_remove.Goals as goal

pub returns : goal.returns
returns c = ways.says_remove
