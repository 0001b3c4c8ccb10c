-- What is printed of an outcome on the two writers, where their contents are known.
use Rattle.std.specs.Prelude.{ℕ, List, Option}
use Rattle.cli_answer.specs.Outcome.{answer_status, answer_line}
use Rattle.cli_outcome.specs.Written.{PrintsFault, PrintsText}
use Rattle.cli_outcome.specs.declared.status.Status.TheVariants as status
use Rattle.cli_answer.specs.declared.outcome.Outcome.{Outcome}
use Rattle.cli_answer.specs.declared.outcome.Outcome.TheVariants as outcome

-- The text of an answer or the bytes were written, or writing them to standard output failed. For a
-- fault nothing is due on standard output, so that no other fault can take its place.
abbrev pub PrintsOutcome : Outcome → Option (List ℕ) → Option (List ℕ) → Option (List ℕ)
    → Option (List ℕ) → ℕ → Type 0
PrintsOutcome (outcome.Answer answer) = PrintsText (answer_line answer) (answer_status answer)
PrintsOutcome (outcome.Bytes bytes) = PrintsText bytes status.Done
PrintsOutcome (outcome.Failed fault) = PrintsFault fault
