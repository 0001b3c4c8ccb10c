-- How the transaction around the calls of a keeper begins and ends.
use Rattle.std.specs.Prelude.{◌≡◌, None, Result, Ok, Err, IsTrue, true, false, if◌then◌else◌}
use Rattle.sqlite.specs.declared.error.Error.{Error}
use Rattle.sqlite.specs.Effect.{IsDatabase}
use Rattle.sqlite.specs.State.{State, IsRolledBack, Shows}
use Rattle.sqlite.specs.Steps.{FailsToCommit}
use Rattle.room_rows.specs.declared.keep.KeepFault.{KeepFault}
use Rattle.room_rows.specs.declared.keep.KeepFault.TheVariants as keep
use Rattle.room_rows.specs.Keep.{blamed_by}
use Rattle.sqlite.specs.Tree.{Trees}
use Rattle.store_tables.specs.Seeing.{wants_memory}
use Rattle.store_transaction.specs.declared.fault.StoreFault.{StoreFault}
use Rattle.store_transaction.specs.declared.fault.StoreFault.TheVariants.{Memory, Db, Damaged}

-- A transaction begins. Over an open connection nothing waited to be committed, and the tables obey
-- their schema.
pub record Begins (old begun : State) : Type 0 where
  pub now : begun.now ≡ old.now
  pub committed : begun.committed ≡ old.committed
  pub same_open : begun.is_open ≡ old.is_open
  pub same_clean : begun.is_clean ≡ old.is_clean
  pub mode : begun.in_transaction ≡ true
  pub settled : IsTrue old.is_open → old.now ≡ old.committed
  pub sound : IsTrue old.is_open → IsDatabase old.now
  pub crash : (db : Trees) → begun.may_leave db → old.may_leave db

-- the fault of a store for that of its keeper
abbrev pub fault_as : KeepFault → StoreFault
fault_as keep.Memory = Memory
fault_as keep.Store = Db
fault_as keep.NoRoot = Damaged
fault_as (keep.Damaged id) = Damaged

-- the fault of a store whose commit fails with this error
abbrev pub commit_fault : Error → StoreFault
commit_fault why = if wants_memory why then Memory else Db

-- An answer is committed, or the commit fails. After a fault the transaction is rolled back.
abbrev pub Finishes : {X : Type 0} → State → State → Result X KeepFault → Result X StoreFault
    → Type 0
Finishes mid end (Ok x) (Ok y) =
    (y ≡ x) × IsTrue mid.in_transaction × Shows mid end mid.now mid.now false
Finishes mid end (Ok x) (Err fault) =
    (why : Error) × (fault ≡ commit_fault why) × FailsToCommit mid end why
Finishes mid end (Err why) (Ok y) = ⊥
Finishes mid end (Err why) (Err fault) = (fault ≡ fault_as why) × IsRolledBack mid end

-- Whatever is answered, the transaction is rolled back.
abbrev pub GivesUp : {X : Type 0} → State → State → Result X KeepFault → Result X StoreFault
    → Type 0
GivesUp mid end (Ok x) (Ok y) = (y ≡ x) × IsRolledBack mid end
GivesUp mid end (Ok x) (Err fault) = ⊥
GivesUp mid end (Err why) (Ok y) = ⊥
GivesUp mid end (Err why) (Err fault) = (fault ≡ fault_as why) × IsRolledBack mid end

-- What the end of a transaction commits, if it gets that far: what is seen after an answer.
abbrev pub CommitsSeen : {X : Type 0} → State → Result X KeepFault → Trees → Type 0
CommitsSeen mid (Ok x) db = db ≡ mid.now.trees
CommitsSeen mid (Err why) db = ⊥

-- the fault isn't that of a row, nor of a root that is missing
abbrev pub BlamesNoRow : KeepFault → Type 0
BlamesNoRow fault = blamed_by fault ≡ None

-- An answer stands only if the connection is open, where what is seen is what was seen. A fault
-- stays as it is.
abbrev pub StandsIfOpen : {X : Type 0} → State → State → Result X KeepFault → Result X KeepFault
    → Type 0
StandsIfOpen old new (Ok x) (Ok y) = (y ≡ x) × (new.now ≡ old.now)
StandsIfOpen old new (Ok x) (Err fault) = BlamesNoRow fault
StandsIfOpen old new (Err why) (Ok y) = ⊥
StandsIfOpen old new (Err why) (Err fault) = fault ≡ why
