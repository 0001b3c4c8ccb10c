use Rattle.room_would.specs.Names.{users_of_object}
use Rattle.room_review.proofs.Gathers.{GathersFirst}
use Rattle.room_would.proofs.names.add_users_of_objects.Given as goal

-- the users of the first objects are there
abbrev pub invariant-objects : goal.invariant-objects
invariant-objects l = GathersFirst users_of_object l.fn.users l.objects l.object-index l.users
