use Rattle.std.proofs.Common.{rules}
use Rattle.room_entry.proofs.Rising.{rising_push}
use Rattle.room_entry.proofs.parties.goes_on.Goals as goal

pub returns-in-Some : goal.returns-in-Some
returns-in-Some c =
    λ le. rising_push c.args.names.now c.args.name.now (λ d some. search (rules, le))
