use Rattle.std.proofs.Common.{◌≡◌, take}
use Rattle.room_turns.proofs.spot.copy_stands.Given as goal

-- the first of them are copied
abbrev pub invariant-loop-stand : goal.invariant-loop-stand
invariant-loop-stand l = l.copies.items ≡ take l.stand-index l.stands
