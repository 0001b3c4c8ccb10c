use Rattle.room_inherit.proofs.Migrated as migrated
use Rattle.room_inherit.proofs.laws.migrated_is_sound.Goals as goal

pub returns : goal.returns
returns c = migrated.migrated_is_sound
