use Rattle.std.{proofs.Common.{sym, subst}, specs.List.Sorted.IsStrictlySortedBy}
use Rattle.room_memory.{specs.Pairs.pair_cmp, proofs.Paired.empty_sorted}
use Rattle.room_memory.proofs.lists.PairSet.new.Goals as goal

pub invariant_of-result : goal.invariant_of-result
invariant_of-result c = subst (IsStrictlySortedBy pair_cmp) (sym c.new.ensures.items) empty_sorted
