-- What opening a room is.
use Rattle.std.specs.Prelude.{◌≡◌, ◌⊎◌, ◌≤◌, ◌<ℤ◌, ℕ, ℤ, pos, Bool, List}
use Rattle.std.specs.Prelude.{[], Option, Some, None, Result, Ok, Err}
use Rattle.std.specs.Prelude.{MatchResult, IsErrAnd, OnOk, IsTrue, false, codes, if◌then◌else◌}
use Rattle.sqlite_trees.specs.View.{doubt}
use Rattle.sqlite_resolve.specs.declared.error.CompileError.{CompileError}
use Rattle.sqlite.specs.Effect.{Database, Reads}
use Rattle.sqlite.specs.Order.{Row}
use Rattle.sqlite.specs.Clock.{timed}
use Rattle.sqlite.specs.Listing.{IsSourceOf, reads_listing, understood}
use Rattle.sqlite_resolve.specs.declared.compiled.Compiled.{Compiled}
use Rattle.sqlite_schema.specs.declared.command.Returning.{Returning}
use Rattle.sqlite.specs.State.{State, HasCleanDisk}
use Rattle.sqlite.specs.declared.error.Error.{Error}
use Rattle.sqlite.specs.declared.error.Error.TheVariants.{SqlInputError}
use Rattle.room_rows.specs.declared.keep.KeepFault.{KeepFault}
use Rattle.room_rows.specs.declared.keep.KeepFault.TheVariants as keep
use Rattle.store_tables.specs.Failing.{HasFailed, HasRisen}
use Rattle.store_tables.specs.Seeing.{wants_memory}
use Rattle.store_tables.specs.Tables.{no_schema, room_schema}
use Rattle.store_tables.specs.Within.{IsWithin, LeavesAsBefore}
use Rattle.store_schema.specs.NewRoom.{meta_of, number_shown}
use Rattle.store_schema.specs.declared.fault.OpenFault.{OpenFault}
use Rattle.store_schema.specs.declared.fault.OpenFault.TheVariants.{NotRooms, OldVersion}
use Rattle.store_schema.specs.declared.fault.OpenFault.TheVariants.{NewVersion}
use Rattle.store_schema.specs.declared.fault.OpenFault.TheVariants.{Db, Memory}

abbrev pub IsNotUnderstood : Error → Type 0
IsNotUnderstood e = (fault : CompileError) × (e ≡ SqlInputError fault)

-- the faults for a query that failed
abbrev pub IsCalled : Error → OpenFault → Type 0
IsCalled e NotRooms = IsNotUnderstood e
IsCalled e (OldVersion n) = ⊥
IsCalled e (NewVersion n) = ⊥
IsCalled e Db = ¬ IsNotUnderstood e
IsCalled e Memory = ¬ IsNotUnderstood e

-- the database failed, or memory ran out
abbrev pub IsFailure : OpenFault → Type 0
IsFailure NotRooms = ⊥
IsFailure (OldVersion n) = ⊥
IsFailure (NewVersion n) = ⊥
IsFailure Db = Unit {0}
IsFailure Memory = Unit {0}

-- the failure of a database that holds a room
abbrev pub failure_as : Error → OpenFault
failure_as why = if wants_memory why then Memory else Db

-- the fault of a query that failed: its text may name what isn't there
abbrev pub open_fault_of : Error → OpenFault
open_fault_of (SqlInputError fault) = NotRooms
open_fault_of why = failure_as why

-- the failure of a keeper
abbrev pub keeper_failure_as : KeepFault → OpenFault
keeper_failure_as keep.Memory = Memory
keeper_failure_as keep.Store = Db
keeper_failure_as keep.NoRoot = Db
keeper_failure_as (keep.Damaged id) = Db

-- There is no room, the database failed, or memory ran out.
abbrev pub IsRefusal : OpenFault → Type 0
IsRefusal NotRooms = Unit {0}
IsRefusal (OldVersion n) = ⊥
IsRefusal (NewVersion n) = ⊥
IsRefusal Db = Unit {0}
IsRefusal Memory = Unit {0}

-- The answer where a schema of this number is expected, and the number that is there, if there is
-- one. The database may fail, and memory may run out.
abbrev pub Says : ℤ → Option ℤ → Result (Unit {0}) OpenFault → Type 0
Says wanted version (Ok _) = version ≡ Some wanted
Says wanted version (Err NotRooms) = version ≡ None
Says wanted version (Err (OldVersion n)) = (version ≡ Some n) × (n <ℤ wanted)
Says wanted version (Err (NewVersion n)) = (version ≡ Some n) × (wanted <ℤ n)
Says wanted version (Err Db) = Unit {0}
Says wanted version (Err Memory) = Unit {0}

-- ---- whatever the tables are

-- how the number of the schema is asked for
abbrev pub number_text : List ℕ
number_text = codes "SELECT value FROM meta WHERE key = 'rooms'"

-- What a query reads. What a write would show is left open.
abbrev pub ReadsAs : Database → Compiled → ℕ → List Row → Option Returning → Type 0
ReadsAs db command clock rows None =
    (from : Database) × IsSourceOf (reads_listing db.schema number_text) db from
    × Reads command.command from (timed [] command.formats clock) rows
ReadsAs db command clock rows (Some what) = Unit {0}

-- Over these tables the text is understood, and answered with rows in which this number stands.
pub record ShowsVersion (version : Option ℤ) (db : Database) : Type 0 where
  pub command : Compiled
  pub clock : ℕ
  pub rows : List Row
  pub is : understood db.schema number_text ≡ Ok command
  pub read : ReadsAs db command clock rows command.returning
  pub number : number_shown rows ≡ version

-- The text isn't understood over these tables: the table or one of the columns isn't there.
abbrev pub CantBeAsked : Database → Type 0
CantBeAsked db = (fault : CompileError) × (understood db.schema number_text ≡ Err fault)

-- why no number was read
abbrev pub IsUnread : Database → OpenFault → Type 0
IsUnread db NotRooms = CantBeAsked db
IsUnread db (OldVersion n) = ⊥
IsUnread db (NewVersion n) = ⊥
IsUnread db Db = Unit {0}
IsUnread db Memory = Unit {0}

-- A number is answered only where the database showed it, and that there is none only where it
-- showed none or can't be asked.
abbrev pub AnswersVersion : ℤ → Database → Result (Unit {0}) OpenFault → Type 0
AnswersVersion wanted db (Ok _) = ShowsVersion (Some wanted) db
AnswersVersion wanted db (Err NotRooms) = ShowsVersion None db ⊎ CantBeAsked db
AnswersVersion wanted db (Err (OldVersion n)) = ShowsVersion (Some n) db × (n <ℤ wanted)
AnswersVersion wanted db (Err (NewVersion n)) = ShowsVersion (Some n) db × (wanted <ℤ n)
AnswersVersion wanted db (Err Db) = Unit {0}
AnswersVersion wanted db (Err Memory) = Unit {0}

-- ---- calls

-- a room is known by its tables too
abbrev pub when_known : Result (Unit {0}) OpenFault → Bool → Result (Unit {0}) OpenFault
when_known (Ok done) false = Err Db
when_known answer known = answer

-- The number of the schema is read, inside a transaction.
pub record AsksVersion (old new : State) (result : Result (Option ℤ) OpenFault) : Type 0 where
  pub clean : doubt old.is_clean ≤ doubt new.is_clean
  pub within : IsTrue old.in_transaction → IsWithin old new
  pub told : HasCleanDisk new → old.now.schema ≡ room_schema
      → MatchResult result (λ version. (version ≡ meta_of old.now) × (new.now ≡ old.now)) IsFailure
  pub empty : HasCleanDisk new → old.now.schema ≡ no_schema → IsErrAnd result IsRefusal
  pub shown : HasCleanDisk new
      → MatchResult result
      (λ version. ShowsVersion version old.now × IsTrue old.is_open × IsTrue new.is_open)
      (IsUnread old.now)

-- Over a room's tables `Db` comes inside a transaction only where the database failed.
abbrev pub FailsToRead : {X : Type 0} → State → State → Result X OpenFault → Type 0
FailsToRead old new result =
    HasCleanDisk new → IsTrue new.is_open → old.now.schema ≡ room_schema → result ≡ Err Db
    → HasFailed old new

-- The schema is expected to have this number.
pub record Expects (wanted : ℤ) (old new : State)
    (result : Result (Unit {0}) OpenFault) : Type 0 where
  pub clean : doubt old.is_clean ≤ doubt new.is_clean
  pub within : IsTrue old.in_transaction → IsWithin old new
  pub told : HasCleanDisk new → old.now.schema ≡ room_schema
      → Says wanted (meta_of old.now) result × OnOk result (new.now ≡ old.now)
  pub empty : HasCleanDisk new → old.now.schema ≡ no_schema → IsErrAnd result IsRefusal
  pub shown : HasCleanDisk new
      → AnswersVersion wanted old.now result × OnOk result (IsTrue old.is_open × IsTrue new.is_open)

-- Over a room's tables `Db` comes only where the disk failed or refused, which the connection
-- counts. No limit of steps brings it.
abbrev pub FailsByDisk : {X : Type 0} → State → State → Result X OpenFault → Type 0
FailsByDisk old new result =
    HasCleanDisk new → IsTrue new.is_open → old.now.schema ≡ room_schema → result ≡ Err Db
    → HasRisen old.faults new.faults

-- What opening a room is whose schema has this number.
pub record Recognizes (wanted : ℤ) (old new : State)
    (result : Result (Unit {0}) OpenFault) : Type 0 where
  pub ended : new.in_transaction ≡ false
  pub clean : doubt old.is_clean ≤ doubt new.is_clean
  pub was_open : HasCleanDisk new → IsTrue new.is_open → IsTrue old.is_open
  -- nothing is changed
  pub kept : HasCleanDisk new → IsTrue new.is_open
      → (new.now ≡ old.now) × (new.committed ≡ old.committed)
  -- a connection that is shut gives no answer
  pub answers : HasCleanDisk new → OnOk result (IsTrue old.is_open)
  -- any file is opened only where the database itself answered this number
  pub shown : HasCleanDisk new → AnswersVersion wanted old.now result
  -- over a room's tables the answer is what the row of `meta` says
  pub told : HasCleanDisk new → old.now.schema ≡ room_schema → Says wanted (meta_of old.now) result
  -- an empty database is no room
  pub empty : HasCleanDisk new → old.now.schema ≡ no_schema → IsErrAnd result IsRefusal
  -- nor does a crash leave anything new
  pub crash : LeavesAsBefore old new

-- What opening a room of this version is.
abbrev pub Adopts : State → State → Result (Unit {0}) OpenFault → Type 0
Adopts = Recognizes (pos 2)
