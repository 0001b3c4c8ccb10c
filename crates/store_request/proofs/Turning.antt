-- What calls over any keeper are, in terms of a transaction.
use Rattle.std.proofs.Common.{ℕ, Result, IfOk, IfErr}
use Rattle.sqlite.specs.State.{State}
use Rattle.room_rows.specs.{declared.keep.KeepFault.KeepFault, Keep.{HasCause, IsDamaged}, Rows.Rows}
use Rattle.room_rows.proofs.Steps.{blames_caused}
use Rattle.store_request.specs.Inside.{HasDamage}
use Rattle.store_tables.specs.{Meaning.rows_of, Shown.Stays, Trust.IsTrusted}
use Rattle.store_tables.specs.Carries.{ByRows, CallsInside, OnRows}

pub carried : {X : Type 0} (begun mid : State) (result : Result X KeepFault)
    (Becomes : Rows → X → Rows → Type 0) (before after : ℕ) → Stays begun mid
    → (IsTrusted begun mid
    → IfOk result (λ answer. Becomes (rows_of begun.now) answer (rows_of mid.now)))
    → IfErr result
    (HasCause before after (λ at. IsTrusted begun mid → IsDamaged (rows_of begun.now) at))
    → CallsInside begun mid result (OnRows HasDamage) (ByRows Becomes)
carried begun mid result Becomes before after stays becomes fault = record {
  stays = stays;
  becomes = becomes;
  blames =
      λ trust id is. (
        id,
        blames_caused result before after id
            (λ at. IsTrusted begun mid → IsDamaged (rows_of begun.now) at) fault is trust,
      );
}

-- the same where what is remembered has to agree
pub carried_with : {X : Type 0} (begun mid : State) (result : Result X KeepFault)
    (Becomes : Rows → X → Rows → Type 0) (before after : ℕ) (Trust : Type 0) → Stays begun mid
    → (IsTrusted begun mid → Trust)
    → (Trust → IfOk result (λ answer. Becomes (rows_of begun.now) answer (rows_of mid.now)))
    → IfErr result (HasCause before after (λ at. Trust → IsDamaged (rows_of begun.now) at))
    → CallsInside begun mid result (OnRows HasDamage) (ByRows Becomes)
carried_with begun mid result Becomes before after Trust stays has becomes fault = record {
  stays = stays;
  becomes = λ trust. becomes (has trust);
  blames =
      λ trust id is. (
        id,
        blames_caused result before after id (λ at. Trust → IsDamaged (rows_of begun.now) at) fault
            is (has trust),
      );
}
