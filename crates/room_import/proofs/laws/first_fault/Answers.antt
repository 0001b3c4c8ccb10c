use Rattle.room_import.proofs.Firsts as lemmas
use Rattle.room_import.proofs.laws.first_fault.Goals as goal

pub returns : goal.returns
returns c = lemmas.first_fault_is
