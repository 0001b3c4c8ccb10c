-- A fault of the later of two calls, and the count of writes after a call.
use Rattle.std.proofs.Common.{◌≡◌, ◌≤◌, ℕ, Result, Ok, Err, IfErr, arith}
use Rattle.std.proofs.lemmas.Bool.Decides.{nat_tests}
use Rattle.sqlite.specs.State.{State}
use Rattle.room_rows.specs.{declared.keep.KeepFault.KeepFault, Keep.{HasCause, capped}}
use Rattle.room_rows.{specs.{Keep.writes_after, Rows.Rows}, proofs.Steps.later_cause}
use Rattle.store_tables.specs.{Meaning.rows_of, Seeing.Nowhere, Trust.IsTrusted}

-- a fault of the later of two calls
pub cause_later : {X : Type 0} (r : Result X KeepFault) (first mid last : ℕ) (E : ℕ → Type 0)
    → first ≤ mid → mid ≤ last → IfErr r (HasCause mid last Nowhere)
    → IfErr r (HasCause first last E)
cause_later r first mid last E up on h = grind (arith, nat_tests, later_cause)

-- the same where the rows are those of tables
pub cause_in : {X : Type 0} (r : Result X KeepFault) (first mid last : ℕ) (old new : State)
    (Blames : Rows → ℕ → Type 0) → first ≤ mid → mid ≤ last
    → IfErr r (HasCause mid last Nowhere)
    → IfErr r (HasCause first last (λ row. IsTrusted old new → Blames (rows_of old.now) row))
cause_in r first mid last old new Blames up on h =
    cause_later r first mid last (λ row. IsTrusted old new → Blames (rows_of old.now) row) up on h

-- no call takes back what was counted
pub writes_rise : {X : Type 0} (count : ℕ) (r : Result X KeepFault) (before after : ℕ)
    → capped after ≡ writes_after count r (capped before) → capped before ≤ capped after
writes_rise count (Ok x) before after is = grind (arith, nat_tests)
writes_rise count (Err fault) before after is = omega (arith, is)
