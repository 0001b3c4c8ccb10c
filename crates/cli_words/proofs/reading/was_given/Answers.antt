use Rattle.cli_words.proofs.Given.{source_rows}
use Rattle.cli_words.proofs.reading.was_given.Goals as goal
use Rattle.std.proofs.Common.{arith}

pub returns : goal.returns
returns c =
    grind (arith, source_rows, c.is_of_words.ensures, c.value_source.ensures)
