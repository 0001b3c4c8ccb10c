use Rattle.room_would.specs.Names.{groups_of_object}
use Rattle.room_review.proofs.Gathers.{GathersFirst}
use Rattle.room_would.proofs.names.add_groups_of_objects.Given as goal

-- the groups of the first objects are there
abbrev pub invariant-objects : goal.invariant-objects
invariant-objects l = GathersFirst groups_of_object l.fn.names l.objects l.object-index l.names
