use Rattle.room_review.proofs.Said as said
use Rattle.room_review.proofs.laws.table_says_rights.Goals as goal

pub returns : goal.returns
returns c = said.table_says_rights
