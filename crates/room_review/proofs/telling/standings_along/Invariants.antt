use Rattle.std.proofs.Common.{◌≡◌, List, [], take}
use Rattle.room_machine.specs.Site.{Site}
use Rattle.room_review.specs.Telling.{AreOn, along}
use Rattle.room_review.proofs.telling.standings_along.Given as goal

-- all callers at each of the first objects
abbrev pub invariant-nodes : goal.invariant-nodes
invariant-nodes l =
    (sites : List Site) → AreOn l.above sites
    → l.way.items ≡ along l.asked.parties.items [] (take l.node-index sites)
