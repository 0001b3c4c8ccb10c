use Rattle.std.proofs.Common.{◌∷◌, []}
use Rattle.room_review.proofs.Gathers.{GathersFirst}
use Rattle.room_review.proofs.users.Users.add_paired.Given as goal

-- the users of the first pairs are there
abbrev pub invariant-loop-pair : goal.invariant-loop-pair
invariant-loop-pair l = GathersFirst (λ pair. pair.1 ∷ []) l.fn.self l.pairs l.pair-index l.self
