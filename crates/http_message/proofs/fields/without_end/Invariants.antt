use Rattle.std.proofs.Common.{◌≡◌, length, reverse}
use Rattle.http_message.specs.Fields.{without_blanks}
use Rattle.http_message.proofs.fields.without_end.Given as goal

abbrev pub invariant-ends : goal.invariant-ends
invariant-ends l = without_blanks (reverse l.bytes) ≡ without_blanks (reverse l.rest)

abbrev pub decreases-ends : goal.decreases-ends
decreases-ends l = length l.rest
