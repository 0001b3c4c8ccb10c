-- What is printed for the text of a question, on two writers (own).
use Rattle.std.specs.Prelude.{◌≡◌, ◌⊎◌, ℕ, List, ◌++◌, Option, codes}
use Rattle.cli_outcome.specs.Ending.{IsOfStream}
use Rattle.cli_outcome.specs.Reading.{IsInput}
use Rattle.cli_outcome.specs.Written.{PrintsFault, PrintsText}
use Rattle.cli_outcome.specs.declared.fault.Fault.{Fault}
use Rattle.cli_outcome.specs.declared.status.Status.{Status}
use Rattle.cli_outcome.specs.declared.status.Status.TheVariants.{Done, Refused}
use Rattle.room_would.specs.Faults.{would_fault_text}
use Rattle.room_would.specs.Would.{IsAnswer, IsRefused}
use Rattle.room_would.specs.declared.fault.WouldFault.{WouldFault}

-- the line of a fault, with its end
abbrev pub refusal_line : WouldFault → List ℕ
refusal_line fault = codes "refused: " ++ (would_fault_text fault ++ codes "\n")

-- The question has this answer; or it has a fault, whose line this is.
abbrev pub IsReply : List ℕ → List ℕ → Status → Type 0
IsReply question text how =
    ((how ≡ Done) × IsAnswer question text)
    ⊎ ((how ≡ Refused) × ((fault : WouldFault) × IsRefused question fault
    × (text ≡ refusal_line fault)))

-- The same of the whole question of a reader.
abbrev pub IsReplyFor : Option (List ℕ) → List ℕ → Status → Type 0
IsReplyFor known text how =
    (question : List ℕ) × IsInput known question × IsReply question text how

-- The reply to the question is printed. Or the question can't be read, or memory runs out on the
-- way: then only the fault is printed.
abbrev pub TellsWould : Option (List ℕ) → Option (List ℕ) → Option (List ℕ)
    → Option (List ℕ) → Option (List ℕ) → ℕ → Type 0
TellsWould known out out' err err' code =
    ((text : List ℕ) × (how : Status) × IsReplyFor known text how
    × PrintsText text how out out' err err' code)
    ⊎ ((why : Fault) × IsOfStream why × PrintsFault why out out' err err' code)
