use Rattle.std.proofs.Common.{◌≡◌, ◌++◌, take, drop}
use Rattle.room_rows.specs.Content.{put_pair}
use Rattle.room_memory.proofs.lists.count_before.Given as goal

-- the pairs so far stand before the place
abbrev pub invariant-loop-i : goal.invariant-loop-i
invariant-loop-i l =
    take l.i l.pairs ++ put_pair (l.group, l.user) (drop l.i l.pairs)
    ≡ put_pair (l.group, l.user) l.pairs
