-- What reviewing over any keeper is, in terms of a transaction.
use Rattle.std.proofs.Common.{ℕ, List, Result, IfOk, IfErr, inl}
use Rattle.sqlite.specs.State.{State}
use Rattle.room_rows.specs.{declared.keep.KeepFault.KeepFault, Keep.{HasCause, HasNoRoot}}
use Rattle.room_rows.proofs.Steps.{blames_caused}
use Rattle.room_review.specs.{Table.IsReview, declared.question.{Scope.Scope, Reviewed.Reviewed}}
use Rattle.store_tables.specs.{Carries.{CallsInside, HasDamagedRow, Reading}, Meaning.rows_of}
use Rattle.store_tables.specs.{Shown.Stays, Trust.IsTrusted}
use Rattle.store_transaction.specs.Reviews.{IsReviewBy}

module _ (question : Scope) (result : Result Reviewed KeepFault) where
  -- a review by the keeper
  pub reviewed_by : (begun mid : State) (pairs : List (List ℕ × List ℕ)) (before after : ℕ)
      → Stays begun mid
      → (IsTrusted begun mid → IfOk result (IsReview pairs question (rows_of begun.now)))
      → IfErr result
      (HasCause before after (λ at. IsTrusted begun mid → HasNoRoot (rows_of begun.now) at))
      → CallsInside begun mid result HasDamagedRow (Reading (IsReviewBy pairs question))
  reviewed_by begun mid pairs before after stays answers fault = record {
    stays = stays;
    becomes = answers;
    blames =
        λ trust id is. (
          id,
          inl (blames_caused result before after id
              (λ at. IsTrusted begun mid → HasNoRoot (rows_of begun.now) at) fault is trust),
        );
  }
