use Rattle.room_would.specs.Names.{groups_of_change}
use Rattle.room_review.proofs.Gathers.{GathersFirst}
use Rattle.room_would.proofs.names.add_groups_of_changes.Given as goal

-- those of the first changes are there
abbrev pub invariant-changes : goal.invariant-changes
invariant-changes l = GathersFirst groups_of_change l.fn.names l.changes l.change-index l.names
