use Rattle.std.proofs.Common.{◌∷◌, []}
use Rattle.room_review.proofs.Gathers.{GathersFirst}
use Rattle.room_would.proofs.names.add_each.Given as goal

-- the first names are there
abbrev pub invariant-names : goal.invariant-names
invariant-names l = GathersFirst (λ name. name ∷ []) l.fn.names l.more l.name-index l.names
