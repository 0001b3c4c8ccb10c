use Rattle.clap.proofs.WalkLemmas.{first_value-rows}
use Rattle.cli_words.proofs.reading.word.Goals as goal
use Rattle.std.proofs.Common.{arith}

pub returns : goal.returns
returns c =
    grind (arith, first_value-rows, c.in-Some.is, c.get_str.ensures)

pub unreachable-requires : goal.unreachable-requires
unreachable-requires c =
    grind (arith, first_value-rows, c.in-None.is, c.get_str.ensures, c.requires)
