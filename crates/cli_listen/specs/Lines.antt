-- The lines that are printed beside the replies (own).
use Rattle.std.specs.Prelude.{◌≡◌, ◌⊎◌, ℕ, ◌+◌, List, [], ◌∷◌, ◌++◌, codes, decimal}
use Rattle.std.specs.Prelude.{Bool, IsTrue, Option, Some, None, Result, Ok, Err}
use Rattle.std.specs.{List.list_any, Option.is_some}
use Rattle.std.specs.Io.KnownBytes.{Appends}
use Rattle.cli_outcome.specs.Written.{WritesSome}
use Rattle.cli_outcome.specs.declared.listen.ListenAddress.{ListenAddress}
use Rattle.cli_outcome.specs.declared.listen.ListenAddress.TheVariants as address
use Rattle.room_http.specs.declared.ended.Cause.{Cause}
use Rattle.cli_listen.specs.Visits.{Visit}
use Rattle.cli_listen.specs.declared.fault.ServingFault.{ServingFault}

-- the address at which connections are accepted
abbrev pub listening_line : ListenAddress → List ℕ
listening_line (address.Port port) = codes "listening 127.0.0.1:" ++ (decimal port ++ codes "\n")
listening_line (address.Socket path) = codes "listening " ++ (path.now ++ codes "\n")

-- it was printed that connections are accepted there
abbrev pub TellsAddress : ListenAddress → Option (List ℕ) → Option (List ℕ) → Type 0
TellsAddress address old new = Appends old new (listening_line address)

-- The address was printed before the first of that many connections. Where there was none and a
-- line couldn't be printed, a front of its line may have been. Out of memory for the table of
-- routes, nothing was.
abbrev pub TellsFirst : ListenAddress → ℕ → Result (Unit {0}) ServingFault → Option (List ℕ)
    → Option (List ℕ) → Type 0
TellsFirst address visits (Err ServingFault.Memory) old new = new ≡ old
TellsFirst address visits (Err ServingFault.File) old new =
    ((visits ≡ 0) × WritesSome old new (listening_line address)) ⊎ TellsAddress address old new
TellsFirst address visits end old new = TellsAddress address old new

-- what ended the connection of this number
abbrev pub connection_line : ℕ → Cause → List ℕ
connection_line number Cause.Read =
    codes "connection " ++ (decimal number ++ codes ": read fault\n")
connection_line number Cause.Write =
    codes "connection " ++ (decimal number ++ codes ": write fault\n")
connection_line number Cause.Memory =
    codes "connection " ++ (decimal number ++ codes ": memory fault\n")

-- how a text is written: in whole, or only a front of it
abbrev pub Writing : Type 1
Writing = Option (List ℕ) → Option (List ℕ) → List ℕ → Type 0

-- the line of the fault that ended the connection of this number is written in this way; without a
-- fault nothing is
abbrev pub TellsOf : Writing → ℕ → Option Cause → Option (List ℕ) → Option (List ℕ) → Type 0
TellsOf Tells number (Some cause) old new = Tells old new (connection_line number cause)
TellsOf Tells number None old new = new ≡ old

-- the same for each of these connections, in order, after this many before them
abbrev pub TellsEach : Writing → ℕ → List Visit → Option (List ℕ) → Option (List ℕ) → Type 0
TellsEach Tells before [] old new = new ≡ old
TellsEach Tells before (visit ∷ visits) old new = (mid : Option (List ℕ))
    × TellsOf Tells (before + 1) visit.fault old mid × TellsEach Tells (before + 1) visits mid new

-- a fault ended the connection
abbrev pub had_fault : Visit → Bool
had_fault visit = is_some visit.fault

-- What is written about the faults of these connections: whole lines if all is done. Otherwise lines
-- may be cut off. Where a line couldn't be printed, it was that of the address, before any
-- connection came, or one about these connections: then one of them had a fault.
abbrev pub TellsFaults : List Visit → Option (List ℕ) → Option (List ℕ)
    → Result (Unit {0}) ServingFault → Type 0
TellsFaults visits old new (Ok done) = TellsEach Appends 0 visits old new
TellsFaults visits old new (Err ServingFault.File) =
    TellsEach WritesSome 0 visits old new × ((visits ≡ []) ⊎ IsTrue (list_any had_fault visits))
TellsFaults visits old new (Err fault) = TellsEach WritesSome 0 visits old new
