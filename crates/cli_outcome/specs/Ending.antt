-- Exit statuses, and the lines of faults and of files that are refused (own).
use Rattle.std.specs.Prelude.{◌≡◌, ◌⊎◌, ℕ, List, ◌++◌, codes}
use Rattle.std.specs.Fmt.{signed_decimal}
use Rattle.std.specs.declared.io.ErrorKind.{ErrorKind}
use Rattle.cli_outcome.specs.declared.fault.Fault.{Fault}
use Rattle.cli_outcome.specs.declared.fault.Fault.TheVariants as fault
use Rattle.cli_outcome.specs.declared.no_room.NoRoom.{NoRoom}
use Rattle.cli_outcome.specs.declared.no_room.NoRoom.TheVariants as no_room
use Rattle.cli_outcome.specs.declared.status.Status.{Status}
use Rattle.cli_outcome.specs.declared.status.Status.TheVariants as status

abbrev pub status_code : Status → ℕ
status_code status.Done = 0
status_code status.Found = 1
status_code status.Refused = 2
status_code status.Failed = 3

abbrev pub fault_line : Fault → List ℕ
fault_line fault.Memory = codes "fault: memory\n"
fault_line fault.Database = codes "fault: database\n"
fault_line fault.File = codes "fault: file\n"
fault_line fault.Net = codes "fault: net\n"

-- the fault of a reader or of a writer
abbrev pub fault_of_kind : ErrorKind → Fault
fault_of_kind ErrorKind.OutOfMemory = fault.Memory
fault_of_kind _ = fault.File

-- what fails where a stream is read or written
abbrev pub IsOfStream : Fault → Type 0
IsOfStream why = (why ≡ fault.Memory) ⊎ (why ≡ fault.File)

abbrev pub no_room_text : NoRoom → List ℕ
no_room_text no_room.NotRooms = codes "not a rooms file"
no_room_text (no_room.Old number) = codes "schema " ++ (signed_decimal number ++ codes " is old")
no_room_text (no_room.New number) = codes "schema " ++ (signed_decimal number ++ codes " is new")
