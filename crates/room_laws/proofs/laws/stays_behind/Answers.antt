use Rattle.room_laws.proofs.Quiet as quiet
use Rattle.room_laws.proofs.laws.stays_behind.Goals as goal

pub returns : goal.returns
returns c = quiet.stays_behind
