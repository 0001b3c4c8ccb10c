use Rattle.std.proofs.Common.{◌≡◌, drop}
use Rattle.cli_check.specs.Check.{without_spaces}
use Rattle.cli_check.proofs.headers.without_spaces.Given as goal

abbrev pub invariant-loop-index : goal.invariant-loop-index
invariant-loop-index l = without_spaces l.bytes ≡ without_spaces (drop l.index l.bytes)
