use Rattle.std.proofs.Common.{◌≡◌, ◌++◌, filter}
use Rattle.room_rows.specs.Content.{has_parent, sorted_by_name}
use Rattle.room_memory.specs.Places.{standing_under}
use Rattle.room_memory.proofs.objects.ObjectMap.children.Given as goal

-- the children so far, and those that are listed among the places that are left
abbrev pub invariant-loop-place : goal.invariant-loop-place
invariant-loop-place l =
    l.found ++ standing_under l.parent l.fn.self l.place-iterator
    ≡ sorted_by_name (filter (has_parent l.parent) l.fn.self)
