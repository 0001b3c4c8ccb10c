-- What is printed where a database isn't opened, and where the serving of connections ended.
use Rattle.std.specs.Prelude.{◌≡◌, ℕ, List, ◌++◌, codes, Option, Result, Ok, Err}
use Rattle.cli_outcome.specs.Ending.{fault_line, no_room_text}
use Rattle.cli_outcome.specs.Written.{PrintsFault, PrintsText, WritesSome}
use Rattle.cli_outcome.specs.declared.fault.Fault.{Fault}
use Rattle.cli_outcome.specs.declared.no_room.NoRoom.{NoRoom}
use Rattle.cli_outcome.specs.declared.status.Status.{Status}
use Rattle.store_schema.specs.declared.fault.OpenFault.{OpenFault}
use Rattle.cli_listen.specs.Lines.{TellsFaults}
use Rattle.cli_listen.specs.Visits.{Visit}
use Rattle.cli_listen.specs.declared.fault.ServingFault.{ServingFault}

-- the line that is printed where the database holds no room of this version
abbrev pub refusal_line : NoRoom → List ℕ
refusal_line why = codes "refused: " ++ (no_room_text why ++ codes "\n")

-- why a database is not opened as a room: for what it holds, or by a fault
abbrev pub why_not_opened : OpenFault → Result NoRoom Fault
why_not_opened OpenFault.NotRooms = Ok NoRoom.NotRooms
why_not_opened (OpenFault.OldVersion number) = Ok (NoRoom.Old number)
why_not_opened (OpenFault.NewVersion number) = Ok (NoRoom.New number)
why_not_opened OpenFault.Db = Err Fault.Database
why_not_opened OpenFault.Memory = Err Fault.Memory

-- what is printed on the two writers, where their contents are known, and the status
abbrev pub PrintsRefusal : NoRoom → Option (List ℕ) → Option (List ℕ) → Option (List ℕ)
    → Option (List ℕ) → ℕ → Type 0
PrintsRefusal why = PrintsText (refusal_line why) Status.Refused

abbrev pub TurnsDown : Result NoRoom Fault → Option (List ℕ) → Option (List ℕ)
    → Option (List ℕ) → Option (List ℕ) → ℕ → Type 0
TurnsDown (Ok why) = PrintsRefusal why
TurnsDown (Err why) = PrintsFault why

-- the fault that is printed where connections were served
abbrev pub serving_fault : ServingFault → Fault
serving_fault ServingFault.Memory = Fault.Memory
serving_fault ServingFault.File = Fault.File
serving_fault ServingFault.Net = Fault.Net
serving_fault ServingFault.Desk = Fault.Database

-- the status where connections were served
abbrev pub end_status : Result (Unit {0}) ServingFault → ℕ
end_status (Ok done) = 0
end_status (Err fault) = 3

-- what is printed of the fault that ended the service: its line or a front of it, if there was one
abbrev pub TellsEnd : Result (Unit {0}) ServingFault → Option (List ℕ) → Option (List ℕ) → Type 0
TellsEnd (Ok done) old new = new ≡ old
TellsEnd (Err fault) old new = WritesSome old new (fault_line (serving_fault fault))

-- What is printed of faults: those of these connections, one after another, and then the one that
-- ended the service.
pub record TellsAll (visits : List Visit) (end : Result (Unit {0}) ServingFault)
    (old new : Option (List ℕ)) : Type 0 where
  pub mid : Option (List ℕ)
  pub connections : TellsFaults visits old mid end
  pub last : TellsEnd end mid new
