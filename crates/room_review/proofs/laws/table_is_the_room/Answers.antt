use Rattle.room_review.proofs.Whole as whole
use Rattle.room_review.proofs.laws.table_is_the_room.Goals as goal

pub returns : goal.returns
returns c = whole.table_is_the_room
