use Rattle.room_change.proofs.Requested as requested
use Rattle.room_change.proofs.laws.after_the_making.Goals as goal

pub returns : goal.returns
returns c = requested.after_the_making
