use Rattle.room_inherit.proofs.Chain.{one_attribute_alone}
use Rattle.room_inherit.proofs.laws.one_attribute_alone.Goals as goal

pub returns : goal.returns
returns c = one_attribute_alone
