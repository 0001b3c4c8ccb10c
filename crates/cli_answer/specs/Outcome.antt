-- The text of an outcome for each of the two writers, and its exit status (own).
use Rattle.std.specs.Prelude.{ℕ, List, ◌++◌, codes, decimal}
use Rattle.room_entry.specs.Faults.{list_fault_text}
use Rattle.room_rows.specs.Paths.{path_text}
use Rattle.room_machine.specs.declared.reply.Reason.{Reason}
use Rattle.room_machine.specs.declared.reply.Reason.TheVariants as reason
use Rattle.room_rows.specs.Codes.{unsound_text}
use Rattle.store_schema.specs.declared.fault.OpenFault.{OpenFault}
use Rattle.store_schema.specs.declared.fault.OpenFault.TheVariants as opening
use Rattle.cli_outcome.specs.Ending.{no_room_text}
use Rattle.cli_outcome.specs.declared.fault.Fault.TheVariants as fault
use Rattle.cli_outcome.specs.declared.no_room.NoRoom.TheVariants as no_room
use Rattle.cli_answer.specs.declared.outcome.TaskAnswer.{TaskAnswer}
use Rattle.cli_answer.specs.declared.outcome.TaskAnswer.TheVariants as answer
use Rattle.cli_answer.specs.declared.outcome.Outcome.{Outcome}
use Rattle.cli_answer.specs.declared.outcome.Outcome.TheVariants as outcome
use Rattle.cli_outcome.specs.declared.status.Status.{Status}
use Rattle.cli_outcome.specs.declared.status.Status.TheVariants as status

-- ---- the exit status

abbrev pub answer_status : TaskAnswer → Status
answer_status answer.Made = status.Done
answer_status (answer.Replaced groups members) = status.Done
answer_status (answer.Changed joined left members) = status.Done
answer_status answer.ListSet = status.Done
answer_status (answer.Refused path why) = status.Refused
answer_status answer.Sound = status.Done
answer_status (answer.Unsound path why) = status.Found
answer_status answer.NoNumbers = status.Found
answer_status answer.Migrated = status.Done
answer_status (answer.NoRoom why) = status.Refused

abbrev pub status_of : Outcome → Status
status_of (outcome.Answer answer) = answer_status answer
status_of (outcome.Bytes bytes) = status.Done
status_of (outcome.Failed fault) = status.Failed

-- ---- standard output

abbrev pub reason_text : Reason → List ℕ
reason_text reason.NoSuch = codes "N1 no-such"
reason_text reason.NotFolder = codes "N2 not-folder"
reason_text reason.WrongKind = codes "N3 wrong-kind"
reason_text reason.Exists = codes "N4 exists"
reason_text reason.NotEmpty = codes "N5 not-empty"
reason_text reason.Root = codes "N6 root"
reason_text reason.Loop = codes "N7 loop"
reason_text (reason.BadList place why) = codes "N8 bad-list"
reason_text reason.TooLarge = codes "N9 too-large"

abbrev pub refusal_at : List (List ℕ) → Reason → List ℕ
refusal_at path why =
    codes "refused: " ++ (reason_text why ++ (codes " at " ++ (path_text path ++ codes "\n")))

-- where a list may not stand at the path, the line names its first entry that may not
abbrev pub reason_line : List (List ℕ) → Reason → List ℕ
reason_line path (reason.BadList place why) =
    codes "refused: entry "
    ++ (decimal place ++ (codes ": " ++ (list_fault_text why ++ codes "\n")))
reason_line path why = refusal_at path why

abbrev pub answer_line : TaskAnswer → List ℕ
answer_line answer.Made = codes "ready\n"
answer_line (answer.Replaced groups members) =
    codes "groups " ++ (decimal groups ++ (codes ", members " ++ (decimal members ++ codes "\n")))
answer_line (answer.Changed joined left members) =
    codes "joined " ++ (decimal joined ++ (codes ", left " ++ (decimal left
    ++ (codes ", members " ++ (decimal members ++ codes "\n")))))
answer_line answer.ListSet = codes "done\n"
answer_line (answer.Refused path why) = reason_line path why
answer_line answer.Sound = codes "sound\n"
answer_line (answer.Unsound path why) =
    codes "fault " ++ (path ++ (codes " " ++ (unsound_text why ++ codes "\n")))
answer_line answer.NoNumbers = codes "fault ? V8 no-numbers\n"
answer_line answer.Migrated = codes "migrated\n"
answer_line (answer.NoRoom why) = codes "refused: " ++ (no_room_text why ++ codes "\n")

-- ---- a database that isn't opened

abbrev pub not_opened : OpenFault → Outcome
not_opened opening.NotRooms = outcome.Answer (answer.NoRoom no_room.NotRooms)
not_opened (opening.OldVersion number) = outcome.Answer (answer.NoRoom (no_room.Old number))
not_opened (opening.NewVersion number) = outcome.Answer (answer.NoRoom (no_room.New number))
not_opened opening.Db = outcome.Failed fault.Database
not_opened opening.Memory = outcome.Failed fault.Memory
