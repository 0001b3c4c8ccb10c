use Rattle.std.{proofs.Common.{◌≤◌, ◌-◌, length, take}, specs.Io.KnownBytes.Appends}
use Rattle.cli_outcome.proofs.write.write_text.Given as goal

abbrev pub invariant-writing : goal.invariant-writing
invariant-writing g l =
    (l.index ≤ length l.text)
    × Appends (g.W.Write.contents l.fn.w) (g.W.Write.contents l.w) (take l.index l.text)

abbrev pub decreases-writing : goal.decreases-writing
decreases-writing g l = length l.text - l.index
