use Rattle.room_machine.proofs.Free as free
use Rattle.room_machine.proofs.laws.some_free.Goals as goal

pub returns : goal.returns
returns c = free.some_free
