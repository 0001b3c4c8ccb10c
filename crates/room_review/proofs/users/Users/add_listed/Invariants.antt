use Rattle.room_review.{specs.Users.user_in, proofs.Gathers.GathersFirst}
use Rattle.room_review.proofs.users.Users.add_listed.Given as goal

-- the users of the first entries are there
abbrev pub invariant-loop-entry : goal.invariant-loop-entry
invariant-loop-entry l =
    GathersFirst (λ entry. user_in entry.who) l.fn.self l.entries l.entry-index l.self
