use Rattle.room_laws.proofs.WhoChanged as changed
use Rattle.room_laws.proofs.laws.changed_by.Goals as goal

pub returns : goal.returns
returns c = changed.changed_by
