use Rattle.room_would.specs.Names.{names_of_supposed}
use Rattle.room_review.proofs.Gathers.{GathersFirst}
use Rattle.room_would.proofs.names.add_supposed.Given as goal

-- the names of the first callers are there
abbrev pub invariant-supposed : goal.invariant-supposed
invariant-supposed l = GathersFirst names_of_supposed l.fn.names l.supposed l.one-index l.names
