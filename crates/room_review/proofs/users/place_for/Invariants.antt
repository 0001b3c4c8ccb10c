use Rattle.room_review.proofs.Listed.{AreBefore}
use Rattle.room_review.proofs.users.place_for.Given as goal

-- the names that were passed come before the name
abbrev pub invariant-loop-place : goal.invariant-loop-place
invariant-loop-place l = AreBefore l.names l.name l.place
