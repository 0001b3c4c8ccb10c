use Rattle.std.proofs.Common.{◌≡◌, take}
use Rattle.room_would.proofs.parties.copy_of.Given as goal

-- the first names are there
abbrev pub invariant-names : goal.invariant-names
invariant-names l = l.copy ≡ take l.name-index l.names
