-- What is written of the answer to an input, on one writer or on two (own).
use Rattle.std.specs.Prelude.{◌≡◌, ◌⊎◌, ℕ, List, [], ◌∷◌, ◌++◌, Option, Result, Ok, Err}
use Rattle.std.specs.Io.KnownBytes.{Appends}
use Rattle.room_entry.specs.Bytes.{line_feed}
use Rattle.cli_outcome.specs.Ending.{IsOfStream}
use Rattle.cli_outcome.specs.Reading.{IsInput}
use Rattle.cli_outcome.specs.Written.{PrintsFault, PrintsText, WritesSome}
use Rattle.cli_outcome.specs.declared.fault.Fault.{Fault}
use Rattle.cli_outcome.specs.declared.status.Status.{Status}
use Rattle.cli_check.specs.Check.{judged}
use Rattle.cli_check.specs.Reply.{reply_status, judged_text}

-- the line that answers an input
abbrev pub reply_line : List ℕ → List ℕ
reply_line input = judged_text (judged input) ++ line_feed ∷ []

-- The line was written, and the status is that of the input; or a beginning of the line, which is
-- nothing where the reader fails.
abbrev pub Answers : {E : Type 0} → Option (List ℕ) → Option (List ℕ) → Option (List ℕ)
    → Result Status E → Type 0
Answers known old new (Ok status) = (input : List ℕ) × IsInput known input
    × Appends old new (reply_line input) × (status ≡ reply_status (judged input))
Answers known old new (Err error) =
    (input : List ℕ) × IsInput known input × WritesSome old new (reply_line input)

-- The input's line is printed. Or it can't be read, or memory runs out on the way: then only the
-- fault is printed.
abbrev pub TellsCheck : Option (List ℕ) → Option (List ℕ) → Option (List ℕ)
    → Option (List ℕ) → Option (List ℕ) → ℕ → Type 0
TellsCheck known out out' err err' code =
    ((input : List ℕ) × IsInput known input
    × PrintsText (reply_line input) (reply_status (judged input)) out out' err err' code)
    ⊎ ((why : Fault) × IsOfStream why × PrintsFault why out out' err err' code)
