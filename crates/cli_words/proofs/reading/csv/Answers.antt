use Rattle.std.proofs.Common.{codes, ◌∙◌}
use Rattle.clap.{specs.Words.found_of, proofs.WalkLemmas.first_value-rows}
use Rattle.cli_words.proofs.reading.csv.Goals as goal

pub returns : goal.returns
returns c = c.get_str.ensures ∙ first_value-rows (found_of c.args.words.now) (codes "CSV")
