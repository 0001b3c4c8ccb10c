use Rattle.std.proofs.Common.{◌∷◌, []}
use Rattle.room_review.proofs.Gathers.{GathersFirst}
use Rattle.room_would.proofs.names.add_paired_groups.Given as goal

-- the groups of the first pairs are there
abbrev pub invariant-pairs : goal.invariant-pairs
invariant-pairs l = GathersFirst (λ pair. pair.0 ∷ []) l.fn.names l.pairs l.pair-index l.names
