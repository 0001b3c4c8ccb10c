use Rattle.room_inherit.proofs.Rooted.{rooted_no_loop}
use Rattle.room_inherit.proofs.laws.rooted_is_no_loop.Goals as goal

pub returns : goal.returns
returns c = rooted_no_loop
