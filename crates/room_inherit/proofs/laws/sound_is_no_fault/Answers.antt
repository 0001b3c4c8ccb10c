use Rattle.room_inherit.proofs.NoFault as none
use Rattle.room_inherit.proofs.laws.sound_is_no_fault.Goals as goal

pub returns : goal.returns
returns c = none.sound_is_no_fault
