-- A call that isn't made, since memory ran out.
use Rattle.std.proofs.Common.{◌≡◌, Result, Err, arith, rules}
use Rattle.sqlite.specs.{Effect.Database, State.State}
use Rattle.room_rows.specs.Rows.{Rows}
use Rattle.store_transaction.specs.declared.fault.StoreFault.{StoreFault}
use Rattle.store_transaction.specs.declared.fault.StoreFault.TheVariants.{Memory, Damaged}
use Rattle.room_store.specs.Ran.{Looked, Ran}

no_damage : {X : Type 0} → ◌≡◌ {A = Result X StoreFault} (Err Memory) (Err Damaged) → ⊥
no_damage {X} damaged = cc

-- Nothing is changed.
pub unrun : {X : Type 0} (old : State) (Blames : Rows → Type 0) (Becomes : Rows → X → Rows → Type 0)
    → Ran {X = X} old old (Err Memory) Blames Becomes
unrun old Blames Becomes = search (rules, no_damage)

pub unlooked : {X : Type 0} (old : State) (Blames : Database → Type 0)
    (Answers : Database → X → Type 0) → Looked {X = X} old old (Err Memory) Blames Answers
unlooked old Blames Answers = grind (arith, no_damage)
