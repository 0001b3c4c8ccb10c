use Rattle.std.proofs.Common.{List}
use Rattle.room_rows.specs.declared.node.Node.{Node}
use Rattle.room_dump.{specs.Visits.GoesOn, proofs.Reading.Knows}
use Rattle.room_machine.specs.Site.{Site}
use Rattle.room_review.specs.Table.{Place}
use Rattle.room_turns.{specs.{Turns.View, Stands.{Comes, Shows}}, proofs.Walked.Standing}
use Rattle.room_turns.proofs.walking.stand_all.Given as goal

-- all callers are added at what the walk came to
abbrev pub invariant-objects : goal.invariant-objects
invariant-objects g l =
    Knows g.K.Keep g.met.K.Keep.laws l.fn.keep l.keep (λ rows.
    (GoesOn rows l.fn.walk → GoesOn rows l.walk)
    × ((view : View) (sites : List Site) (objects : List (Place × Node))
    → Shows l.asked l.scene view
    → Comes view l.asked.parties.items rows l.fn.walk l.fn.stood.way.items sites objects
    → Standing l.asked l.scene view rows l.walk l.stood.way.items l.fn.stood.all.items
    l.stood.all.items objects))

abbrev pub decreases-objects : goal.decreases-objects
decreases-objects g l = l.walk.left
