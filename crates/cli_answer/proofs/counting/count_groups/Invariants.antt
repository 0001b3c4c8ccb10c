use Rattle.std.proofs.Common.{◌≡◌, ℕ, List, drop}
use Rattle.cli_answer.{specs.Counting.{groups_after, distinct_groups}, proofs.Groups.HasSeen}
use Rattle.cli_answer.proofs.counting.count_groups.Given as goal

abbrev pub invariant-pairs : goal.invariant-pairs
invariant-pairs l =
    (groups : List (List ℕ)) × HasSeen l.seen groups
    × (groups_after groups (drop l.pair-index l.pairs) ≡ distinct_groups l.pairs)
