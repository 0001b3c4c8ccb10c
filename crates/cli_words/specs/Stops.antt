-- What is printed of the reasons why the program ends before a task is done (own).
use Rattle.std.specs.Prelude.{◌≡◌, ℕ, List, [], ◌∷◌, ◌++◌, Option, codes, string_bytes}
use Rattle.std.specs.Io.KnownBytes.{Keeps}
use Rattle.std.specs.declared.io.ErrorKind.{ErrorKind}
use Rattle.room_entry.specs.Bytes.{line_feed}
use Rattle.room_entry.specs.declared.failure.Failure.{Failure}
use Rattle.room_entry.specs.declared.failure.Failure.TheVariants.{OutOfMemory, Fault}
use Rattle.cli_outcome.specs.Ending.{fault_line, fault_of_kind}
use Rattle.cli_outcome.specs.declared.fault.Fault.TheVariants as fault
use Rattle.cli_outcome.specs.Written.{PrintsText, WritesSome}
use Rattle.cli_outcome.specs.declared.status.Status.TheVariants as status
use Rattle.cli_words.specs.declared.stop.Stop.{Stop}
use Rattle.cli_words.specs.declared.stop.Stop.TheVariants as stop
use Rattle.cli_words.specs.Tasks.{refusal_text}
use Rattle.cli_words.specs.declared.refusal.TaskRefusal.{TaskRefusal}
use Rattle.cli_words.specs.declared.command.CliFault.{CliFault}

-- ---- why it ends

-- a reader or a writer fails
abbrev pub stop_of_kind : ErrorKind → Stop
stop_of_kind kind = stop.Failed (fault_of_kind kind)

-- the words are no command, or there is no memory for them
abbrev pub stop_of_words : Failure CliFault → Stop
stop_of_words OutOfMemory = stop.Failed fault.Memory
stop_of_words (Fault why) = stop.Words why

-- the words or the input are refused, or there is no memory for them
abbrev pub stop_of_refusal : Failure TaskRefusal → Stop
stop_of_refusal OutOfMemory = stop.Failed fault.Memory
stop_of_refusal (Fault why) = stop.Refused why

-- ---- what is printed of it

-- Refusals are printed on standard output. Faults and what `clap` says of words are printed on
-- standard error.
abbrev pub TellsStop : Stop → Option (List ℕ) → Option (List ℕ) → Option (List ℕ)
    → Option (List ℕ) → ℕ → Type 0
TellsStop (stop.Failed fault) out out' err err' code =
    Keeps out out' × WritesSome err err' (fault_line fault) × (code ≡ 3)
TellsStop (stop.Refused why) out out' err err' code =
    PrintsText (refusal_text why ++ line_feed ∷ []) status.Refused out out' err err' code
TellsStop stop.Exists out out' err err' code =
    PrintsText (codes "refused: file exists\n") status.Refused out out' err err' code
TellsStop stop.NotRooms out out' err err' code =
    PrintsText (codes "refused: not a rooms file\n") status.Refused out out' err err' code
TellsStop (stop.Words fault) out out' err err' code =
    Keeps out out' × WritesSome err err' (string_bytes fault.text) × (code ≡ 2)
TellsStop stop.NotText out out' err err' code =
    Keeps out out' × WritesSome err err' (codes "error: an argument is not UTF-8\n") × (code ≡ 2)
