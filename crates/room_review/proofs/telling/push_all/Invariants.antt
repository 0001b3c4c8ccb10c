use Rattle.std.proofs.Common.{List}
use Rattle.room_rows.specs.declared.node.Node.{Node}
use Rattle.room_dump.proofs.Reading.{Knows}
use Rattle.room_machine.specs.Site.{Site}
use Rattle.room_review.{specs.{Table.Place, Telling.Comes}, proofs.Told.Telling}
use Rattle.room_review.proofs.telling.push_all.Given as goal

-- the rows of what the walk came to are told
abbrev pub invariant-objects : goal.invariant-objects
invariant-objects g l =
    Knows g.K.Keep g.met.K.Keep.laws l.fn.keep l.keep (λ rows.
    (sites : List Site) (objects : List (Place × Node))
    → Comes l.asked.parties.items rows l.fn.walk l.fn.way.items sites objects
    → Telling l.asked rows l.walk l.way.items l.all l.fn.sheet l.sheet objects)

abbrev pub decreases-objects : goal.decreases-objects
decreases-objects g l = l.walk.left
