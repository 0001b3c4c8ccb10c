use Rattle.std.proofs.Common.{arith, rules}
use Rattle.clap.proofs.{CallerReads.signed_reads, WalkLemmas.one_text-rows}
use Rattle.cli_words.proofs.Numbers.{number_read}
use Rattle.cli_words.proofs.reading.count.Goals as goal

pub returns : goal.returns
returns c =
    grind (arith, one_text-rows, number_read, c.in-Some.count, c.in-Some.ensures.none)

pub unreachable-requires : goal.unreachable-requires
unreachable-requires c =
    search (rules, one_text-rows, signed_reads, c.requires)
