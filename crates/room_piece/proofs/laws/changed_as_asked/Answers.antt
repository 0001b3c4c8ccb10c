use Rattle.room_piece.proofs.Bare.{as_asked}
use Rattle.room_piece.proofs.laws.changed_as_asked.Goals as goal

pub returns : goal.returns
returns c = as_asked
