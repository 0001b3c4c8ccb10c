use Rattle.std.proofs.{Common.{arith, is_lt, nat_cmp}, lemmas.Fn.always_returns_same}
use Rattle.std.proofs.lemmas.List.Sorted.{ranks_by}
use Rattle.std.specs.Cmp.Lexicographic.{slice_cmp, nat_list_cmp_total}
use Rattle.room_entry.proofs.parties.sort_names.Goals as goal

pub returns-clause-sorted : goal.returns-clause-sorted
returns-clause-sorted c = c.sort_unstable_by.ensures.sorted
    (λ x y. is_lt (slice_cmp nat_cmp x y))
    (ranks_by nat_list_cmp_total (λ x. x)) (grind (arith, always_returns_same, is_lt, nat_cmp))
