use Rattle.std.proofs.Common.{◌≡◌, take}
use Rattle.room_rows.proofs.path.Path.front.Given as goal

-- copies of the names so far
abbrev pub invariant-loop-name : goal.invariant-loop-name
invariant-loop-name l = l.names.items ≡ take l.name-index l.kept
