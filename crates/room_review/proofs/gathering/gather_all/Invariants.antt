use Rattle.room_dump.{specs.Visits.GoesOn, proofs.Reading.Knows}
use Rattle.room_review.proofs.Gathered.{Gathering}
use Rattle.room_review.proofs.gathering.gather_all.Given as goal

-- the users at what the walk came to are gathered
abbrev pub invariant-objects : goal.invariant-objects
invariant-objects g l =
    Knows g.K.Keep g.met.K.Keep.laws l.fn.keep l.keep (λ rows. GoesOn rows l.fn.walk
    → Gathering rows l.fn.walk l.walk l.fn.users l.users)

abbrev pub decreases-objects : goal.decreases-objects
decreases-objects g l = l.walk.left
