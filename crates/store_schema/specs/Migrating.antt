-- What upgrading the rows of schema 1 is.
use Rattle.std.specs.Prelude.{◌≡◌, ◌≤◌, ℕ, ℤ, pos, true, false, not, Some, Result, Ok, Err}
use Rattle.std.specs.Prelude.{All, List, ◌++◌, filter}
use Rattle.std.specs.Prelude.{IfOk, IsErrAnd, OnOk, OnErr, IsTrue}
use Rattle.sqlite_trees.specs.View.{IsShaped, doubt}
use Rattle.sqlite_trees.specs.declared.store.Shape.TheVariants.{Table}
use Rattle.sqlite.specs.Effect.{Database}
use Rattle.sqlite.specs.Order.{Row}
use Rattle.sqlite.specs.Tree.{Trees}
use Rattle.sqlite.specs.State.{State, HasCleanDisk}
use Rattle.sqlite.specs.declared.error.Error.{Error}
use Rattle.store_tables.specs.Counters.{AreCounted}
use Rattle.store_tables.specs.Meaning.{IsRecord, rows_of}
use Rattle.store_tables.specs.Printed.{KeepsPrinted}
use Rattle.store_tables.specs.Shown.{HasTables, IsRoom}
use Rattle.store_tables.specs.Tables.{no_schema}
use Rattle.store_tables.specs.Trees as tree
use Rattle.store_schema.specs.NewRoom.{is_version, meta_of}
use Rattle.store_schema.specs.Opening.{AnswersVersion, IsRefusal, Says, ShowsVersion}
use Rattle.store_tables.specs.Within.{IsWithin, LeavesOnly, LeavesOrCommits, TreesOf}
use Rattle.store_schema.specs.declared.fault.MigrateFault.{MigrateFault}
use Rattle.store_schema.specs.declared.fault.MigrateFault.TheVariants.{Opening, Unsound}
use Rattle.room_rows.specs.Meaning.{meaning}
use Rattle.room_rows.specs.Rows.{AreRows, Rows}
use Rattle.room_rows.specs.declared.keep.Keep.{Ghosts}
use Rattle.room_rows.specs.declared.keep.KeepFault.{KeepFault}
use Rattle.room_rows.specs.declared.keep.KeepFault.TheVariants.{NoRoot}
use Rattle.room_inherit.specs.declared.outcome.SpreadFault.{SpreadFault}
use Rattle.room_inherit.specs.declared.outcome.SpreadFault.TheVariants as spread
use Rattle.room_verify.specs.Kept.{kept_report_of}
use Rattle.room_rows.specs.Sound.{AreSound, AreSoundKept}
use Rattle.room_inherit.specs.SpreadAll.{IsSpreadAll}
use Rattle.room_rows.specs.declared.report.Report.{Report}
use Rattle.room_rows.specs.declared.report.Report.TheVariants.{Fault, Sound}

-- Rows that are sound for schema 1 become rows that are sound for schema 2 and mean the same, by
-- carrying all lists down.
pub record AreMigrated (old new : Rows) : Type 0 where
  pub before : AreSoundKept old
  pub after : AreSound new
  pub same : meaning new.read ≡ meaning old.read
  pub spread : (changed : ℕ) × IsSpreadAll old new changed

-- Where the report on rows of schema 1 is sound, carrying all lists down upgrades them.
abbrev pub SpreadIsMigrated : Type 0
SpreadIsMigrated =
    (old new : Rows) → AreRows old → kept_report_of old ≡ Sound
    → (changed : ℕ) × IsSpreadAll old new changed → AreMigrated old new

-- the report, and where it is sound, all lists are carried down
abbrev pub IsMigrated : Rows → Report → Rows → Type 0
IsMigrated old report new =
    (report ≡ kept_report_of old)
    × (report ≡ Sound → (changed : ℕ) × IsSpreadAll old new changed)

-- The rows of a keeper are upgraded.
pub record MigratesRows {S : Type 0} (k : Ghosts S) (old new : S)
    (result : Result Report KeepFault) : Type 0 where
  pub follows : k.Follows old new
  pub becomes : k.IsTrusted old new
      → IfOk result (λ report. IsMigrated (k.rows old) report (k.rows new))

-- The keeper's fault for lists that weren't all carried down. They are from the root on, and no
-- object that is its own ancestor is a root.
abbrev pub spread_fault_as : SpreadFault → KeepFault
spread_fault_as (spread.Keeper fault) = fault
spread_fault_as spread.Loop = NoRoot

-- All lists are carried down.
pub record CarriesAll {S : Type 0} (k : Ghosts S) (old new : S)
    (result : Result (Unit {0}) KeepFault) : Type 0 where
  pub follows : k.Follows old new
  pub becomes : k.IsTrusted old new → IfOk result (λ _. (changed : ℕ)
      × IsSpreadAll (k.rows old) (k.rows new) changed)

-- the rows of `meta` but that of the schema's number
abbrev pub other_rows : List Row → List Row
other_rows rows = filter (λ r. not (is_version r)) rows

-- What an upgrade keeps to, as every call of a store does (`Retains`), but for the schema's number:
-- each other row of `meta` is as it was, where the rows stand in the order of their numbers.
pub record RetainsOthers (db next : Trees) : Type 0 where
  pub meta : IsShaped Table (db tree.meta)
      → other_rows (next tree.meta) ≡ other_rows (db tree.meta)
  pub more : List Row
  pub audits : next tree.audits ≡ db tree.audits ++ more
  pub records : All IsRecord more
  pub counters : AreCounted (db tree.counters) (db tree.audits) more (next tree.counters)
  pub texts : KeepsPrinted (db tree.nodes) (next tree.nodes)

-- The number of the schema is written anew, and nothing else.
pub record Stamps (old new : State) (result : Result ℕ Error) : Type 0 where
  pub within : IsWithin old new
  pub inside : HasCleanDisk new → OnOk result (new.in_transaction ≡ true)
  pub keeps : HasCleanDisk new → IsRoom old.now → OnOk result (IsRoom new.now
      × (rows_of new.now ≡ rows_of old.now))
  pub retains : HasCleanDisk new → IsRoom old.now → (n : ℤ) → meta_of old.now ≡ Some n
      → OnOk result (RetainsOthers old.now.trees new.now.trees)

-- What upgrading a room leaves of a database. `Opening` depends on the number of the schema, and
-- `Unsound` names the first fault.
abbrev pub MigratesTables : Database → Database → Result (Unit {0}) MigrateFault → Type 0
MigratesTables old new (Ok _) =
    (meta_of old ≡ Some (pos 1)) × (meta_of new ≡ Some (pos 2)) × IsRoom new
    × AreMigrated (rows_of old) (rows_of new)
MigratesTables old new (Err (Opening fault)) = Says (pos 1) (meta_of old) (Err fault)
MigratesTables old new (Err (Unsound path why)) =
    (meta_of old ≡ Some (pos 1)) × (kept_report_of (rows_of old) ≡ Fault path why)

-- there is no room, the database failed, or memory ran out
abbrev pub IsNoRoom : MigrateFault → Type 0
IsNoRoom (Opening fault) = IsRefusal fault
IsNoRoom (Unsound path why) = ⊥

-- A number is answered, and rows are tested, only where the database showed the number.
abbrev pub AnswersMigration : Database → Result (Unit {0}) MigrateFault → Type 0
AnswersMigration db (Ok _) = ShowsVersion (Some (pos 1)) db
AnswersMigration db (Err (Opening fault)) = AnswersVersion (pos 1) db (Err fault)
AnswersMigration db (Err (Unsound path why)) = ShowsVersion (Some (pos 1)) db

-- The steps of upgrading a room, inside a transaction.
pub record IsInside (old new : State) (result : Result (Unit {0}) MigrateFault) : Type 0 where
  -- whatever the tables are, nothing is committed
  pub within : IsWithin old new
  pub leads : HasCleanDisk new → IsTrue new.is_open → IsRoom old.committed → IsRoom old.now
      → MigratesTables old.now new.now result
  pub shown : HasCleanDisk new → AnswersMigration old.now result
  pub empty : HasCleanDisk new → old.now.schema ≡ no_schema → IsErrAnd result IsNoRoom
  pub retains : HasCleanDisk new → IsTrue new.is_open → IsRoom old.committed → IsRoom old.now
      → old.now ≡ old.committed → OnOk result (RetainsOthers old.now.trees new.now.trees)
  -- a connection that is shut gives no answer
  pub opens : HasCleanDisk new → OnOk result (IsTrue new.is_open)

-- A room of schema 1 becomes this one.
pub record IsMigratedRoom (old new : Database) : Type 0 where
  pub leads : MigratesTables old new (Ok tt)
  pub retains : RetainsOthers old.trees new.trees

-- What an upgrade commits, if it gets that far: of a room's tables those of the room upgraded.
abbrev pub CommitsMigration : Database → Trees → Type 0
CommitsMigration old db =
    ShowsVersion (Some (pos 1)) old × (HasTables old → TreesOf (IsMigratedRoom old) db)

-- What upgrading a room is.
pub record Migrates (old new : State) (result : Result (Unit {0}) MigrateFault) : Type 0 where
  pub ended : new.in_transaction ≡ false
  pub clean : doubt old.is_clean ≤ doubt new.is_clean
  pub was_open : HasCleanDisk new → IsTrue new.is_open → IsTrue old.is_open
  pub leads : HasCleanDisk new → IsTrue new.is_open → HasTables old.now
      → MigratesTables old.now new.now result
  -- records, lists and `meta` beside the schema's number
  pub retains : HasCleanDisk new → IsTrue new.is_open → HasTables old.now
      → OnOk result (RetainsOthers old.now.trees new.now.trees)
  pub committed : HasCleanDisk new → OnOk result (new.committed ≡ new.now)
  -- a connection that is shut gives no answer
  pub answers : HasCleanDisk new → OnOk result (IsTrue old.is_open × IsTrue new.is_open)
  -- any file is upgraded only where the database itself answered 1
  pub shown : HasCleanDisk new → AnswersMigration old.now result
  -- an empty database is no room
  pub empty : HasCleanDisk new → old.now.schema ≡ no_schema → IsErrAnd result IsNoRoom
  -- after a fault any database is as it was
  pub kept : HasCleanDisk new → IsTrue new.is_open
      → OnErr result ((new.now ≡ old.now) × (new.committed ≡ old.committed))
  -- a crash leaves what it could leave before, or the room upgraded
  pub crash : LeavesOrCommits old new (CommitsMigration old.now)
  -- and once that is answered, the room upgraded
  pub lasts : HasCleanDisk new → OnOk result (LeavesOnly new new.now)
