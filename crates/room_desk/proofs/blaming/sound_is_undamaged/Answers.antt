use Rattle.room_sound.proofs.Blamed.{sound_undamaged}
use Rattle.room_desk.proofs.blaming.sound_is_undamaged.Goals as goal

pub returns : goal.returns
returns c = sound_undamaged
