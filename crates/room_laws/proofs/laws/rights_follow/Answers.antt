use Rattle.room_laws.proofs.RightsFollow as changed
use Rattle.room_laws.proofs.laws.rights_follow.Goals as goal

pub returns : goal.returns
returns c = changed.rights_follow
