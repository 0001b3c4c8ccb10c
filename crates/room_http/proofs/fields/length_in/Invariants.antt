use Rattle.std.{proofs.Common.{◌≡◌, ◌≤◌, take}, specs.Str.Parse.digits_value}
use Rattle.room_http.specs.Limits.{max_body}
use Rattle.room_http.proofs.fields.length_in.Given as goal

abbrev pub invariant-loop-digit : goal.invariant-loop-digit
invariant-loop-digit l = (l.number ≡ digits_value 10 (take l.digit-index l.text))
    × (l.number ≤ max_body)
