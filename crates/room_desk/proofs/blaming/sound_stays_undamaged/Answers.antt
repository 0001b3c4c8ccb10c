use Rattle.room_desk.proofs.Steps.InTurn.{never_after}
use Rattle.room_desk.proofs.blaming.sound_stays_undamaged.Goals as goal

pub returns : goal.returns
returns c = never_after
