-- What a statement inside a transaction leaves.
use Rattle.std.proofs.Common.{◌≡◌, ℕ, List, Result, Ok, Err, IsTrue, inl, inr, false, arith}
use Rattle.std.proofs.lemmas.Bool.Decides.{nat_tests}
use Rattle.sqlite.specs.{Order.Row, Effect.Database, declared.error.Error.Error, State.State}
use Rattle.sqlite.specs.State.{HasCleanDisk, Executes, ExecutesInside}
use Rattle.store_schema.specs.Making.{Makes}
use Rattle.store_tables.{specs.Within.IsWithin, proofs.Within.{CommitsNothing, as_before}}
use Rattle.store_tables.proofs.Within.{unchanged_within, undone_within, wrote_within}

module _ (old new : State) (quiet : CommitsNothing old new) where
  inside : (sql : List ℕ) (params : Row) (r : Result ℕ Error)
      → ExecutesInside 0 sql params old new r → IsWithin old new
  inside sql params (Ok count) h = wrote_within old new quiet h.1
  inside sql params (Err e) (inl ran) = grind (arith, nat_tests, unchanged_within, undone_within)
  inside sql params (Err e) (inr ends) = unchanged_within old new quiet ends.2

  pub within_inside : (sql : List ℕ) (params : Row) (r : Result ℕ Error)
      → (HasCleanDisk new → ExecutesInside 0 sql params old new r) → IsWithin old new
  within_inside sql params r h = grind (arith, nat_tests, as_before, inside)

  -- where the transaction has ended, a statement is refused
  pub makes_by : (sql : List ℕ) (params : Row) (r : Result ℕ Error) (e : Error)
      (Before After : Database → Type 0)
      → (old.in_transaction ≡ false → (r ≡ Err e) × IsWithin old new)
      → (HasCleanDisk new → IsTrue old.in_transaction → ExecutesInside 0 sql params old new r)
      → ((count : ℕ) → Before old.now → Executes sql params old new (Ok count) → After new.now)
      → Makes Before After old new r
  makes_by sql params r e Before After ended runs makes = grind (arith, nat_tests, within_inside)
