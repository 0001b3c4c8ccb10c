use Rattle.room_laws.proofs.RightsChanged as changed
use Rattle.room_laws.proofs.laws.rights_stay.Goals as goal

pub returns : goal.returns
returns c = changed.rights_stay
