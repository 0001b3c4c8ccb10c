use Rattle.room_entry.proofs.Letters.{and_is_set}
use Rattle.room_entry.proofs.mask.is_set.Goals as goal

pub returns : goal.returns
returns c = and_is_set c.args.bits c.args.bit c.requires
