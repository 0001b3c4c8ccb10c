use Rattle.room_piece.proofs.Followed.{stood_as_asked}
use Rattle.room_piece.proofs.laws.stood_as_asked.Goals as goal

pub returns : goal.returns
returns c = stood_as_asked
