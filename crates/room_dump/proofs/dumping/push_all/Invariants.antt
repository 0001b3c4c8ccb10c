use Rattle.std.proofs.Common.{string_bytes}
use Rattle.room_dump.{specs.Visits.GoesOn, proofs.{Dumped.Telling, Reading.Knows}}
use Rattle.room_dump.proofs.dumping.push_all.Given as goal

-- what the walk came to is told
abbrev pub invariant-objects : goal.invariant-objects
invariant-objects g l =
    Knows g.K.Keep g.met.K.Keep.laws l.fn.keep l.keep (λ rows. GoesOn rows l.fn.walk
    → Telling rows l.fn.walk l.walk (string_bytes l.fn.text) (string_bytes l.text))

abbrev pub decreases-objects : goal.decreases-objects
decreases-objects g l = l.walk.left
