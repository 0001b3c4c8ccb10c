-- A call of a store that only reads, from its beginning to its end.
use Rattle.std.proofs.Common.{◌≡◌, ◌≤◌, [], Result, Ok, Err, OnOk, IsTrue, false}
use Rattle.sqlite_trees.specs.View.{doubt}
use Rattle.sqlite.specs.{Effect.Database, State.{State, HasCleanDisk}}
use Rattle.room_rows.specs.declared.keep.KeepFault.{KeepFault}
use Rattle.store_tables.specs.{Shown.Stays, Within.LeavesAsBefore, Carries.AnswersOpen}
use Rattle.store_tables.specs.Carries.{CallsInside, Reading}
use Rattle.store_transaction.specs.{declared.fault.StoreFault.StoreFault, Transaction.Begins}
use Rattle.store_transaction.specs.Transaction.{GivesUp, StandsIfOpen}
use Rattle.room_store.{specs.{Crash.Outlasts, Leads.Leads, Ran.Looked}, proofs.Leading.nothing}
use Rattle.room_store.proofs.{Outlasting.idle, Transact.looked, Turning.stands}

-- what it promises
pub record Looks {X : Type 0} (old new : State) (result : Result X StoreFault)
    (Blames : Database → Type 0) (Answers : Database → X → Type 0) : Type 0 where
  pub looked : Looked old new result Blames Answers
  pub leads : Leads old [] new
  pub outlasts : Outlasts old [] [] new

pub looks : {X : Type 0} (old begun mid end : State) (Blames : Database → Type 0)
    (Answers : Database → X → Type 0) (done : Result X KeepFault) (result : Result X StoreFault)
    → Begins old begun → CallsInside begun mid done Blames (Reading Answers)
    → AnswersOpen begun mid done → end.in_transaction ≡ false
    → doubt mid.is_clean ≤ doubt end.is_clean → (HasCleanDisk end → GivesUp mid end done result)
    → LeavesAsBefore mid end → Looks old end result Blames Answers
looks old begun mid end Blames Answers done result begins carries opens ended clean ends crash =
    let it = looked old begun mid end begins carries.stays ended clean Blames Answers done result
    carries opens ends crash in
    let leads = nothing old end Blames Answers result it in
    record {
      looked = it;
      leads = leads;
      outlasts = idle old end leads it.crash it.leaves.was_open;
    }

open_too : {X : Type 0} (begun last : State) (done : Result X KeepFault) → Stays begun last
    → (HasCleanDisk last → OnOk done (IsTrue last.is_open)) → AnswersOpen begun last done
open_too begun last (Ok x) stays opens now = (stays.within.was_open now (opens now), opens now)
open_too begun last (Err why) stays opens now = tt

-- the same, where an answer stands only if the connection is open after the calls
pub looks_if_open : {X : Type 0} (old begun mid last end : State) (Blames : Database → Type 0)
    (Answers : Database → X → Type 0) (done tested : Result X KeepFault)
    (result : Result X StoreFault)
    → Begins old begun → CallsInside begun mid done Blames (Reading Answers) → Stays mid last
    → (HasCleanDisk last → OnOk tested (IsTrue last.is_open))
    → (HasCleanDisk last → StandsIfOpen mid last done tested) → end.in_transaction ≡ false
    → doubt last.is_clean ≤ doubt end.is_clean
    → (HasCleanDisk end → GivesUp last end tested result) → LeavesAsBefore last end
    → Looks old end result Blames Answers
looks_if_open old begun mid last end Blames Answers done tested result begins carries stays opens
    stand ended clean ends crash =
    let whole = stands begun mid last Blames (Reading Answers) stays done tested carries stand in
    looks old begun last end Blames Answers tested result begins whole
    (open_too begun last tested whole.stays opens) ended clean ends crash
