use Rattle.room_inherit.proofs.Meant as stored
use Rattle.room_inherit.proofs.laws.sound_is_content.Goals as goal

pub returns : goal.returns
returns c = stored.sound_is_content
