use Rattle.std.proofs.Common.{◌≡◌, take}
use Rattle.room_remember.proofs.known.listing_copied.Given as goal

abbrev pub invariant-pairs : goal.invariant-pairs
invariant-pairs l = l.copy.items ≡ take l.pair-index l.pairs
