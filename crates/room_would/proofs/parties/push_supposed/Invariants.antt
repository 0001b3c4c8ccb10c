use Rattle.std.proofs.Common.{◌≡◌, ◌++◌, map, take}
use Rattle.room_would.specs.Parties.{supposed_party}
use Rattle.room_would.proofs.parties.push_supposed.Given as goal

-- the first callers are there
abbrev pub invariant-supposed : goal.invariant-supposed
invariant-supposed l = l.parties.items
    ≡ l.fn.parties.items ++ map (supposed_party l.stranger) (take l.one-index l.supposed)
