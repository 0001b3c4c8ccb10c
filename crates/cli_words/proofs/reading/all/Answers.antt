use Rattle.clap.proofs.WalkLemmas.{one_text-rows}
use Rattle.cli_words.proofs.Numbers.{flag_read}
use Rattle.cli_words.proofs.reading.all.Goals as goal
use Rattle.std.proofs.Common.{arith}

pub returns : goal.returns
returns c =
    grind (arith, one_text-rows, flag_read, c.get_flag.ensures.none, c.get_flag.ensures.other)
