use Rattle.room_review.{specs.Users.users_at, proofs.Gathers.GathersFirst}
use Rattle.room_review.proofs.gathering.gather_above.Given as goal

-- the users at the first objects are there
abbrev pub invariant-nodes : goal.invariant-nodes
invariant-nodes l = GathersFirst users_at l.fn.users l.above l.node-index l.users
