-- The task that is read for a job (own).
use Rattle.std.specs.Prelude.{◌≡◌, ℕ, List, Option, Result, Ok, Err}
use Rattle.cli_outcome.specs.Ending.{IsOfStream}
use Rattle.cli_outcome.specs.Reading.{IsInput}
use Rattle.cli_words.specs.Tasks.{task_of}
use Rattle.cli_words.specs.declared.judging.Task.{Task}
use Rattle.cli_words.specs.declared.refusal.TaskRefusal.{TaskRefusal}
use Rattle.cli_words.specs.declared.command.Job.{Job}
use Rattle.cli_words.specs.declared.command.Input.{Input}
use Rattle.cli_words.specs.declared.command.Input.TheVariants as input
use Rattle.cli_words.specs.declared.stop.Stop.{Stop}
use Rattle.cli_words.specs.declared.stop.Stop.TheVariants as stop

-- One byte more than a list or a group file may have.
abbrev pub most_of : Input → ℕ
most_of input.Nothing = 0
most_of input.Standard = 1048577
most_of (input.File name) = 8388609

-- The task or the refusal that is due, or a stream or memory fails.
abbrev pub IsTask : Result Task TaskRefusal → Result Task Stop → Type 0
IsTask due (Ok task) = due ≡ Ok task
IsTask due (Err (stop.Refused why)) = due ≡ Err why
IsTask due (Err (stop.Failed why)) = IsOfStream why
IsTask due (Err other) = ⊥

-- It is due for the whole input of the reader.
abbrev pub ReadsTask : Job → Option (List ℕ) → Result Task Stop → Type 0
ReadsTask job known result =
    (input : List ℕ) × IsInput known input × IsTask (task_of job input) result
