use Rattle.std.proofs.Common.{◌≡◌, ◌++◌, filter, map}
use Rattle.room_rows.specs.Content.{has_parent, sorted_by_name}
use Rattle.room_memory.specs.{Objects.named_kind, Places.standing_under}
use Rattle.room_memory.proofs.objects.ObjectMap.listing.Given as goal

-- the children so far, and those that are listed among the places that are left
abbrev pub invariant-loop-place : goal.invariant-loop-place
invariant-loop-place l =
    l.found.items ++ map named_kind (standing_under l.parent l.fn.self l.place-iterator)
    ≡ map named_kind (sorted_by_name (filter (has_parent l.parent) l.fn.self))
