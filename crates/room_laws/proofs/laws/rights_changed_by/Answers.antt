use Rattle.room_laws.proofs.RightsChanged as changed
use Rattle.room_laws.proofs.laws.rights_changed_by.Goals as goal

pub returns : goal.returns
returns c = changed.rights_changed_by
