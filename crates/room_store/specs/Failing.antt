-- When a store gives no answer because of its database.
use Rattle.std.specs.Prelude.{◌≡◌, Result, Err, IsTrue}
use Rattle.sqlite.specs.State.{State}
use Rattle.store_tables.specs.Failing.{HasRisen}
use Rattle.store_transaction.specs.declared.fault.StoreFault.{StoreFault}
use Rattle.store_transaction.specs.declared.fault.StoreFault.TheVariants.{Db}
use Rattle.room_store.specs.Premise.{StorePremise}

-- `Db` comes only where the disk failed or refused, which the connection counts. No limit of steps
-- brings it.
abbrev pub FailsByDb : {X : Type 0} → State → State → Result X StoreFault → Type 0
FailsByDb old new result =
    StorePremise old new → IsTrue new.is_open → result ≡ Err Db
    → HasRisen old.faults new.faults
