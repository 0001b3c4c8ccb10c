-- What a call inside a `Transaction` leaves.
use Rattle.std.proofs.Common.{◌≡◌, ℕ, List, Result, Ok, Err, IsTrue, inl, inr, ◌⊎◌, refl, sym}
use Rattle.std.proofs.Common.{subst, true, false, Bool, IfOk, IfErr, Vec, Global, arith}
use Rattle.std.proofs.lemmas.Bool.Decides.{nat_tests}
use Rattle.sqlite.specs.{Order.Row, declared.error.Error.Error, State.{State, HasCleanDisk, Shown}}
use Rattle.sqlite.specs.State.{FailsToQuery, IsTooLate, Executes, ExecutesInside}
use Rattle.store_tables.{specs.Shown.{IsRoom, Stays}, proofs.Calls.{failed_query, left_stays}}
use Rattle.store_tables.proofs.{Calls.{retains_on, stays_by, unchanged_stays}, Executed.WritesRoom}
use Rattle.store_tables.proofs.{Bare.{IsReading, shown_same}, Within.{CommitsNothing, wrote_within}}

late_or : (sql : List ℕ) (params : Row) (old new : State) (e : Error)
    → CommitsNothing old new
    → FailsToQuery sql params old new e ⊎ IsTooLate sql params old new e → Stays old new
late_or sql params old new e quiet given =
    grind (arith, nat_tests, failed_query, left_stays, unchanged_stays)

-- what a query leaves, whatever it answers
pub query_inside : (sql : List ℕ) (params : Row) (old new : State)
    (r : Result (Vec Row Global) Error) → IsReading sql → CommitsNothing old new
    → (HasCleanDisk new → IfOk r (λ rows. Shown sql params old new rows.items))
    → (HasCleanDisk new → IfErr r (λ e. FailsToQuery sql params old new e
    ⊎ IsTooLate sql params old new e)) → Stays old new
query_inside sql params old new (Ok rows) reads quiet ok err =
    stays_by old new quiet
    (λ now. unchanged_stays old new quiet (shown_same sql params old new rows.items reads (ok now)))
query_inside sql params old new (Err e) reads quiet ok err =
    stays_by old new quiet (λ now. late_or sql params old new e quiet (err now))

-- a write leaves what every call leaves, if one that answers a count keeps to `WritesRoom`
inside_only : (sql : List ℕ) (params : Row) (old new : State) (r : Result ℕ Error)
    → CommitsNothing old new
    → ((count : ℕ) → Executes sql params old new (Ok count) → IsRoom old.now → WritesRoom old new)
    → ExecutesInside 0 sql params old new r → Stays old new
inside_only sql params old new r quiet writes h =
    grind (arith, nat_tests, left_stays, retains_on, unchanged_stays, wrote_within)

pub write_inside : (sql : List ℕ) (params : Row) (old new : State) (r : Result ℕ Error)
    → CommitsNothing old new
    → (IsTrue old.in_transaction → (count : ℕ) → Executes sql params old new (Ok count)
    → IsRoom old.now → WritesRoom old new)
    → (old.in_transaction ≡ false → Stays old new)
    → (HasCleanDisk new → IsTrue old.in_transaction → ExecutesInside 0 sql params old new r)
    → Stays old new
write_inside sql params old new r quiet writes ended h = go old.in_transaction refl
  where
    go : (b : Bool) → old.in_transaction ≡ b → Stays old new
    go true is =
        stays_by old new quiet
        (λ now. inside_only sql params old new r quiet (writes is) (h now is))
    go false is = ended is

-- what a write did, where the transaction was open
pub did_inside : (sql : List ℕ) (params : Row) (old new : State) (r : Result ℕ Error) (e : Error)
    (P : ℕ → Type 0) → (old.in_transaction ≡ false → r ≡ Err e)
    → (IsTrue old.in_transaction → ExecutesInside 0 sql params old new r)
    → ((q : Result ℕ Error) → Executes sql params old new q → Rattle.std.proofs.Common.IfOk q P)
    → Rattle.std.proofs.Common.IfOk r P
did_inside sql params old new r e P ended runs did = grind (arith, nat_tests)
