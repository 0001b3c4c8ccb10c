use Rattle.room_laws.proofs.Told as unseen
use Rattle.room_laws.proofs.laws.nothing_else_tells.Goals as goal

pub returns : goal.returns
returns c = unseen.nothing_else_tells
