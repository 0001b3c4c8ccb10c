use Rattle.room_change.proofs.Pieces as pieces
use Rattle.room_change.proofs.laws.like_ones_are_alike.Goals as goal

pub returns : goal.returns
returns c = pieces.like_ones_are_alike
