-- The text of a room is the whole of it.
use Rattle.std.proofs.Common.{ℕ, ◌+◌, ◌<◌, ◌≤◌, [], length, sym, ◌∙◌, arith}
use Rattle.room_rows.specs.Rows.{numbers_of}
use Rattle.room_dump.specs.{Dump.{child_path, object_lines}, Laws.TextIsWhole, Visits.always}
use Rattle.room_dump.proofs.{Depth.deep_enough, Dumped.told_from, Reached.reached_first}
use Rattle.room_entry.proofs.Facts.Members.{count}

below_both : (rest most depth : ℕ) → (1 + 0) + rest ≤ most → most ≤ depth → rest < depth
below_both rest most depth e f = omega (arith, e, f)

pub whole : TextIsWhole
whole rows are root is depth deep =
    let most = length (numbers_of rows) in
    let r = reached_first rows are root is in
    deep_enough child_path (object_lines rows.read) depth most rows.read r.rest
    [] root r.waits.0.0 r.rests r.once
    (below_both (count always r.rest) most depth r.fewer deep)
    (below_both (count always r.rest) most most r.fewer (omega arith))
    ∙ sym (told_from (object_lines rows.read) rows root is)
