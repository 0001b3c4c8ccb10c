use Rattle.std.proofs.Common.{ℕ, ◌≡◌, List, [], take}
use Rattle.room_machine.specs.Stored.{stored_site}
use Rattle.room_review.specs.Standing.{standings}
use Rattle.room_review.proofs.standing.standings_at_root.Given as goal

-- the first callers
abbrev pub invariant-loop-party : goal.invariant-loop-party
invariant-loop-party l =
    (path : List (List ℕ))
    → l.items.items ≡ standings (take l.party-index l.parties) [] (stored_site path l.root)
