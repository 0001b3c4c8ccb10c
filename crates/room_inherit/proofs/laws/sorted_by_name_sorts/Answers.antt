use Rattle.room_inherit.proofs.Sorted as sorted
use Rattle.room_inherit.proofs.laws.sorted_by_name_sorts.Goals as goal

pub returns : goal.returns
returns c = sorted.sorted_by_name_sorts
