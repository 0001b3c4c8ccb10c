use Rattle.room_inherit.proofs.Migrated as migrated
use Rattle.room_inherit.proofs.laws.migrated_means_the_same.Goals as goal

pub returns : goal.returns
returns c = migrated.migrated_means_the_same
