use Rattle.std.proofs.Common.{◌≡◌, List, [], take}
use Rattle.room_machine.specs.Site.{Site}
use Rattle.room_review.specs.Telling.{AreOn}
use Rattle.room_turns.specs.{Turns.View, Stands.{Shows, along}}
use Rattle.room_turns.proofs.walking.spots_along.Given as goal

-- all callers at each of the first objects
abbrev pub invariant-nodes : goal.invariant-nodes
invariant-nodes l =
    (view : View) (sites : List Site) → Shows l.asked l.scene view → AreOn l.above sites
    → l.way.items ≡ along view l.asked.parties.items [] (take l.node-index sites)
