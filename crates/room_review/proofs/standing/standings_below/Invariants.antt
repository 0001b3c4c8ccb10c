use Rattle.std.proofs.Common.{ℕ, ◌≡◌, List, Some, length, take}
use Rattle.room_machine.specs.{Site.Site, Stored.stored_site, Rights.last_of}
use Rattle.room_review.specs.Standing.{before_last, standings}
use Rattle.room_review.proofs.standing.standings_below.Given as goal

-- the first callers
abbrev pub invariant-loop-party : goal.invariant-loop-party
invariant-loop-party l =
    (above : List Site) (site : Site) (path : List (List ℕ)) → last_of above ≡ Some site
    → l.folder ≡ standings l.parties (before_last above) site
    → l.items.items ≡ standings (take (length l.yielded) l.parties) above (stored_site path l.node)
