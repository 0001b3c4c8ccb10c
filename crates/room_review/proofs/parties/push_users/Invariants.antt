use Rattle.std.proofs.Common.{◌≡◌, ◌++◌, map, take}
use Rattle.room_dump.proofs.Reading.{Knows}
use Rattle.room_review.specs.Table.{named}
use Rattle.room_review.proofs.parties.push_users.Given as goal

-- the first users are there
abbrev pub invariant-users : goal.invariant-users
invariant-users g l =
    Knows g.K.Keep g.met.K.Keep.laws l.fn.keep l.keep (λ rows. l.parties.items ≡ l.fn.parties.items
    ++ map (named rows.read) (take l.name-index l.users))
