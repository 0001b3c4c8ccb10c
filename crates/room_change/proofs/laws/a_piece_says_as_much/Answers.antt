use Rattle.room_change.proofs.Pieces as pieces
use Rattle.room_change.proofs.laws.a_piece_says_as_much.Goals as goal

pub returns : goal.returns
returns c = pieces.a_piece_says_as_much
