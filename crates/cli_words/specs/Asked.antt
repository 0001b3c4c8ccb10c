-- What a job reads before it is judged (own).
use Rattle.std.specs.Prelude.{Some}
use Rattle.cli_words.specs.declared.command.Job.{Job}
use Rattle.cli_words.specs.declared.command.Job.TheVariants as job
use Rattle.cli_words.specs.declared.command.Input.{Input}
use Rattle.cli_words.specs.declared.command.Input.TheVariants as input

abbrev pub input_of : Job → Input
input_of (job.Groups (Some csv) joins leaves) = input.File csv
input_of (job.Reset path which) = input.Standard
input_of other = input.Nothing
