-- What a statement inside a transaction answers and leaves.
use Rattle.std.proofs.Common.{◌≡◌, ℕ, List, Result, Ok, Err, IsTrue, ◌⊎◌, false, IfOk, IfErr, Vec}
use Rattle.std.proofs.{Common.{Global, arith}, lemmas.Bool.Decides.nat_tests}
use Rattle.sqlite.specs.{Order.Row, Tree.Trees, declared.error.Error.Error, State.State}
use Rattle.sqlite.specs.State.{HasCleanDisk, Shown, FailsToQuery, IsTooLate, Executes}
use Rattle.sqlite.specs.State.{ExecutesInside}
use Rattle.store_tables.specs.{Shown.{IsRoom, Stays}, Statements.{QueriesSql, ExecutesSql}}
use Rattle.store_tables.proofs.{Calls.same_ok, Executed.WritesRoom, Inside.did_inside}
use Rattle.store_tables.proofs.{Inside.{query_inside, write_inside}, Bare.IsReading}
use Rattle.store_tables.proofs.{Within.CommitsNothing, Tests.if_ok}

-- a query inside a transaction keeps `QueriesSql`, once it is known what its rows show of a room
pub asks : (sql : List ℕ) (params : Row) (old new : State) (r : Result (Vec Row Global) Error)
    (Shows : Trees → List Row → Type 0) → IsReading sql
    → CommitsNothing old new
    → ((rows : List Row) → IsRoom old.now → Shown sql params old new rows
    → Shows old.now.trees rows)
    → (HasCleanDisk new → IfOk r (λ rows. Shown sql params old new rows.items))
    → (HasCleanDisk new → IfErr r (λ e. FailsToQuery sql params old new e
    ⊎ IsTooLate sql params old new e)) → QueriesSql Shows old new r
asks sql params old new r Shows reads quiet shows ok err =
    grind (arith, nat_tests, if_ok, query_inside, same_ok)

-- a write after the transaction's end, which leaves the connection as it was
pub ended : {H : Type 0} (shown : H → State) (old new : H) (r : Result ℕ Error) (e : Error)
    (IsOver : Type 0) → (IsOver → (r ≡ Err e) × (new ≡ old)) → IsOver
    → (r ≡ Err e) × Stays (shown old) (shown new)
ended shown old new r e IsOver h over = grind (arith, nat_tests)

-- a write inside a transaction keeps `ExecutesSql`, once it is known what it leaves by its count
pub writes : (sql : List ℕ) (params : Row) (old new : State) (r : Result ℕ Error) (e : Error)
    (Leaves : ℕ → State → State → Type 0) → CommitsNothing old new
    → (IsTrue old.in_transaction → (count : ℕ) → Executes sql params old new (Ok count)
    → IsRoom old.now → WritesRoom old new)
    → ((count : ℕ) → IsRoom old.now → Executes sql params old new (Ok count) → Leaves count old new)
    → (old.in_transaction ≡ false → (r ≡ Err e) × Stays old new)
    → (HasCleanDisk new → IsTrue old.in_transaction → ExecutesInside 0 sql params old new r)
    → ExecutesSql Leaves old new r
writes sql params old new r e Leaves quiet room_stays leaves ended runs =
    grind (arith, nat_tests, did_inside, ended, write_inside)
