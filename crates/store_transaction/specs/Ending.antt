-- How a call ends that only read, once its transaction was rolled back.
use Rattle.std.specs.Prelude.{◌≡◌, Result, Ok, Err, IsTrue}
use Rattle.sqlite.specs.declared.error.Error.{Error}
use Rattle.sqlite.specs.State.{State}
use Rattle.store_transaction.specs.declared.fault.StoreFault.{StoreFault}
use Rattle.store_transaction.specs.Transaction.{commit_fault}

-- the connection was open and is, and what is seen is what was seen and is committed
pub record Settled (old new : State) : Type 0 where
  pub was_open : IsTrue old.is_open
  pub is_open : IsTrue new.is_open
  pub now : new.now ≡ old.now
  pub committed : new.committed ≡ new.now

-- the connection isn't open, or what is seen is what was seen
pub record IsLeft (old new : State) : Type 0 where
  pub was_open : IsTrue new.is_open → IsTrue old.is_open
  pub now : IsTrue new.is_open → new.now ≡ old.now

-- An answer stands if the connection is open after it.
abbrev pub EndsLook : {X : Type 0} → State → State → Result X StoreFault → Result X StoreFault
    → Type 0
EndsLook old new (Ok x) (Ok y) = (y ≡ x) × Settled old new
EndsLook old new (Ok x) (Err fault) =
    (why : Error) × (fault ≡ commit_fault why) × IsLeft old new
EndsLook old new (Err why) result = Unit {0}
