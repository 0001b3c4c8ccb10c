use Rattle.room_would.specs.Names.{group_in}
use Rattle.room_review.proofs.Gathers.{GathersFirst}
use Rattle.room_would.proofs.names.add_groups_in.Given as goal

-- the groups of the first entries are there
abbrev pub invariant-entries : goal.invariant-entries
invariant-entries l =
    GathersFirst (λ entry. group_in entry.who) l.fn.names l.entries l.entry-index l.names
