-- The text and the status that answer an input (own).
use Rattle.std.specs.Prelude.{ℕ, ◌-◌, List, [], ◌++◌, Option, Some, None, codes, decimal, slice_get}
use Rattle.std.specs.Option.{option_map_or}
use Rattle.room_entry.specs.Ace.{Ace}
use Rattle.room_ace.specs.Text.{entry_text}
use Rattle.room_entry.specs.Letters.{mask_text}
use Rattle.room_entry.specs.Faults.{list_fault_text}
use Rattle.room_ace.specs.Faults.{why_text}
use Rattle.room_eval.specs.declared.outcome.Verdict.{Verdict}
use Rattle.room_eval.specs.declared.outcome.Verdict.TheVariants.{Granted, Denied}
use Rattle.cli_outcome.specs.declared.status.Status.{Status}
use Rattle.cli_outcome.specs.declared.status.Status.TheVariants.{Done, Found, Refused}
use Rattle.cli_check.specs.declared.fault.InputFault.{InputFault}
use Rattle.cli_check.specs.declared.fault.InputWhy.{InputWhy}
use Rattle.cli_check.specs.declared.fault.InputWhy.TheVariants.{BadHeader, BadName, Text}
use Rattle.cli_check.specs.declared.judging.Judged.{Judged}
use Rattle.cli_check.specs.declared.judging.Judged.TheVariants.{Says, TooLong, AtLine, AtEntry}

abbrev pub input_why_text : InputWhy → List ℕ
input_why_text BadHeader = codes "K1 bad header"
input_why_text BadName = codes "K2 bad name"
input_why_text (Text why) = why_text why

-- the first line that has a fault, and the fault
abbrev pub input_fault_text : InputFault → List ℕ
input_fault_text fault =
    codes "line " ++ (decimal fault.line ++ (codes ": " ++ input_why_text fault.why))

-- the printed entry at a place, which counts from 1
abbrev pub text_at : List Ace → ℕ → List ℕ
text_at entries place = option_map_or entry_text (slice_get entries (place - 1)) []

-- where the list denies, and the entry there
abbrev pub place_text : List Ace → Option ℕ → List ℕ
place_text entries None = codes " no entry"
place_text entries (Some place) =
    codes " entry " ++ (decimal place ++ (codes " " ++ text_at entries place))

abbrev pub verdict_text : List Ace → Verdict → List ℕ
verdict_text entries Granted = codes "granted"
verdict_text entries (Denied bits place) =
    codes "denied bits " ++ (mask_text bits ++ place_text entries place)

abbrev pub judged_text : Judged → List ℕ
judged_text (Says list verdict) = verdict_text list.entries verdict
judged_text TooLong = codes "refused: input too long"
judged_text (AtLine fault) =
    codes "refused: line " ++ (decimal fault.line ++ (codes ": " ++ input_why_text fault.why))
judged_text (AtEntry fault) =
    codes "refused: entry " ++ (decimal fault.place ++ (codes ": " ++ list_fault_text fault.why))

abbrev pub verdict_status : Verdict → Status
verdict_status Granted = Done
verdict_status (Denied bits place) = Found

abbrev pub reply_status : Judged → Status
reply_status (Says list verdict) = verdict_status verdict
reply_status TooLong = Refused
reply_status (AtLine fault) = Refused
reply_status (AtEntry fault) = Refused
