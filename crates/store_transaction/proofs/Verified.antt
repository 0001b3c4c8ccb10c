-- What the test of all rows over any keeper is, in terms of a transaction.
use Rattle.std.proofs.Common.{ℕ, Result, IfOk, IfErr}
use Rattle.sqlite.specs.State.{State}
use Rattle.room_rows.specs.{declared.keep.KeepFault.KeepFault, Keep.HasCause, Rows.Rows}
use Rattle.room_rows.proofs.Steps.{blames_caused}
use Rattle.store_tables.specs.{Carries.{CallsInside, NoTables, Reading}, Meaning.rows_of}
use Rattle.store_tables.specs.{Shown.Stays, Trust.IsTrusted}

-- The test of all rows never fails because of a row.
pub looked_through : {X : Type 0} (begun mid : State) (result : Result X KeepFault)
    (Answers : Rows → X → Type 0) (before after : ℕ) → Stays begun mid
    → (IsTrusted begun mid → IfOk result (Answers (rows_of begun.now)))
    → IfErr result (HasCause before after (λ at. IsTrusted begun mid → ⊥))
    → CallsInside begun mid result NoTables (Reading (λ db answer. Answers (rows_of db) answer))
looked_through begun mid result Answers before after stays answers fault = record {
  stays = stays;
  becomes = answers;
  blames =
      λ trust id is. blames_caused result before after id (λ at. IsTrusted begun mid → ⊥) fault is
      trust;
}
