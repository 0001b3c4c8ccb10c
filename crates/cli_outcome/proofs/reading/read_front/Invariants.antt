use Rattle.cli_outcome.proofs.Fronts.{Came}
use Rattle.cli_outcome.proofs.reading.read_front.Given as goal

abbrev pub invariant-reading : goal.invariant-reading
invariant-reading g l =
    Came l.fn.most (g.R.Read.remaining l.fn.reader) (g.R.Read.remaining l.reader) l.bytes.items
