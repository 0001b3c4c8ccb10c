-- A test whether a connection is shut.
use Rattle.std.specs.Prelude.{◌≡◌, Bool, true, false, Result, Ok, Err, IfOk, IsTrue}
use Rattle.sqlite.specs.State.{State, HasCleanDisk}
use Rattle.sqlite.specs.declared.error.Error.{Error}
use Rattle.sqlite.specs.declared.error.Error.TheVariants.{SqliteFailure}
use Rattle.sqlite.specs.declared.error.ErrorCode.TheVariants.{Closed}
use Rattle.room_machine.specs.Desk.{Agrees}
use Rattle.store_tables.specs.Within.{LeavesAsBefore}
use Rattle.store_transaction.specs.declared.fault.StoreFault.{StoreFault}
use Rattle.room_store.specs.Kept.{IsShut}
use Rattle.room_store.specs.Ran.{LeavesOpen}
use Rattle.store_transaction.specs.Transaction.{commit_fault}

-- the error that a shut connection answers, and no other
abbrev pub says_shut : Error → Bool
says_shut (SqliteFailure Closed) = true
says_shut other = false

-- what an error tells of a connection: that it is shut, or that it isn't known whether it is
abbrev pub told_if : Bool → Error → Result Bool StoreFault
told_if true why = Ok true
told_if false why = Err (commit_fault why)

abbrev pub told_by : Error → Result Bool StoreFault
told_by why = told_if (says_shut why) why

-- What is told is so, and any database is as it was.
pub record Asks (old new : State) (result : Result Bool StoreFault) : Type 0 where
  pub leaves : LeavesOpen old new
  pub same : HasCleanDisk new → IsTrue new.is_open → new.now ≡ old.now
  pub told : IfOk result (Agrees (HasCleanDisk new) (IsShut new))
  pub crash : LeavesAsBefore old new
