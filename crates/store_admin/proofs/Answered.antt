-- What is answered was asked of an open connection.
use Rattle.std.proofs.Common.{ℕ, List, Result, Ok, Err, Some, None, Option, IsTrue, IfOk, Vec}
use Rattle.std.proofs.Common.{Global}
use Rattle.sqlite.specs.{Order.Row, declared.error.Error.Error, State.{State, HasCleanDisk, Shown}}
use Rattle.sqlite.specs.State.{ShowsRows}
use Rattle.sqlite_resolve.specs.declared.compiled.Compiled.{Compiled}
use Rattle.sqlite_schema.specs.declared.command.Returning.{Returning}
use Rattle.store_tables.specs.Carries.{AnswersOpen}

at_open : (sql : List ℕ) (c : Compiled) (full : Row) (old new : State) (rows : List Row)
    (r : Option Returning) → ShowsRows old new sql c full rows r → IsTrue old.is_open
    × IsTrue new.is_open
at_open sql c full old new rows None s = (s.3.0.was_open, s.3.0.is_open)
at_open sql c full old new rows (Some what) s = (s.1.shown.was_open, s.1.shown.is_open)

-- a query
pub answered : (sql : List ℕ) (params : Row) (old new : State) (r : Result (Vec Row Global) Error)
    → (HasCleanDisk new → IfOk r (λ rows. Shown sql params old new rows.items))
    → AnswersOpen old new r
unfolding Shown
answered sql params old new (Ok rows) ok now = let h = ok now in
    at_open sql h.0 _ old new rows.items h.0.returning h.2
answered sql params old new (Err e) ok now = tt
