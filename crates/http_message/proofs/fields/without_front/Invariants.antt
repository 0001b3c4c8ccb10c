use Rattle.std.proofs.Common.{◌≡◌, drop}
use Rattle.http_message.specs.Fields.{without_blanks}
use Rattle.http_message.proofs.fields.without_front.Given as goal

abbrev pub invariant-loop-index : goal.invariant-loop-index
invariant-loop-index l = without_blanks l.bytes ≡ without_blanks (drop l.index l.bytes)
