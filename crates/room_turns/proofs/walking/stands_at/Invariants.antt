use Rattle.std.proofs.Common.{◌≡◌, List, ℕ, take}
use Rattle.room_machine.specs.{Site.Site, Stored.stored_site}
use Rattle.room_turns.specs.{Turns.View, Stands.{AreBeside, HasHere, stands_of}}
use Rattle.room_turns.proofs.walking.stands_at.Given as goal

-- the first callers
abbrev pub invariant-loop-index : goal.invariant-loop-index
invariant-loop-index l =
    (view : View) (above : List Site) (path : List (List ℕ))
    → HasHere view above l.here.node.now l.here
    → AreBeside view l.asked.parties.items above l.here.node.now.id l.folder l.earlier
    → l.stands.items
    ≡ stands_of view (take l.index l.asked.parties.items) above
    (stored_site path l.here.node.now)
