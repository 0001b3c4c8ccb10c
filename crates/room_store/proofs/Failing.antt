-- Why calls that are rolled back are answered by `Db`.
use Rattle.std.proofs.Common.{◌≡◌, ◌≤◌, Result, Ok, Err, refl, sym, ap, ◌∙◌, false}
use Rattle.sqlite_trees.specs.View.{doubt}
use Rattle.sqlite.specs.State.{State, HasCleanDisk}
use Rattle.room_rows.specs.declared.keep.KeepFault.{KeepFault}
use Rattle.store_tables.{specs.{Shown.Stays, Failing.FailsInside}, proofs.Failing.{Counts, around}}
use Rattle.store_transaction.specs.declared.fault.StoreFault.{StoreFault, TheVariants.Db}
use Rattle.store_transaction.specs.Transaction.{Begins, GivesUp, fault_as}
use Rattle.room_store.{specs.Failing.FailsByDb, proofs.Transact.{made, same_fault}}
use Rattle.room_rows.specs.declared.keep.KeepFault.TheVariants as keep

store_of : (why : KeepFault) → fault_as why ≡ Db → why ≡ keep.Store
store_of keep.Memory is = absurd (let e = is in cc)
store_of keep.Store is = refl
store_of keep.NoRoot is = absurd (let e = is in cc)
store_of (keep.Damaged id) is = absurd (let e = is in cc)

pub fails_by : {X : Type 0} (old begun mid end : State) (done : Result X KeepFault)
    (result : Result X StoreFault)
    → Begins old begun → Stays begun mid → end.in_transaction ≡ false
    → doubt mid.is_clean ≤ doubt end.is_clean → Counts old begun mid end
    → FailsInside begun mid done → (HasCleanDisk end → GivesUp mid end done result)
    → FailsByDb old end result
fails_by old begun mid end (Ok x) (Ok y) begins stays ended clean counts fails ends =
    λ premise is_open is. absurd (let e = is in cc)
fails_by old begun mid end (Ok x) (Err fault) begins stays ended clean counts fails ends =
    λ premise is_open is. absurd (ends premise.disk)
fails_by old begun mid end (Err why) (Ok y) begins stays ended clean counts fails ends =
    λ premise is_open is. absurd (let e = is in cc)
fails_by old begun mid end (Err why) (Err fault) begins stays ended clean counts fails ends =
    λ premise is_open is.
    let gave = ends premise.disk in
    let store = store_of why (sym gave.0 ∙ same_fault is) in
    let m = made old begun mid end begins stays ended clean premise.disk
    (gave.1.was_open is_open) premise.tables in
    around old begun mid end counts (fails m.trusted (ap Err store))
