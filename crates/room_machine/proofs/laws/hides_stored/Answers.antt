use Rattle.room_machine.proofs.Hiding as hiding
use Rattle.room_machine.proofs.laws.hides_stored.Goals as goal

pub returns : goal.returns
returns c = hiding.hides_stored
