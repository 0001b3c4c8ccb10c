-- A review with the pairs that were read before.
use Rattle.std.proofs.Common.{◌≡◌, ℕ, List, Result, Ok, IfOk, Vec, subst, subst₂}
use Rattle.std.specs.Global.{Global}
use Rattle.sqlite.specs.State.{State}
use Rattle.room_rows.specs.declared.keep.KeepFault.{KeepFault}
use Rattle.room_review.specs.declared.question.{Scope.Scope, Reviewed.Reviewed}
use Rattle.store_tables.specs.Carries.{CallsInside, HasDamagedRow, NoTables, Reading}
use Rattle.store_tables.specs.Trust.{IsTrusted, stays_on, trusted_first, trusted_last}
use Rattle.store_admin.specs.Operating.{AreMembers}
use Rattle.store_transaction.specs.Reviews.{IsReviewBy}
use Rattle.room_store.specs.Reviews.{IsReviewOf}

module _ (question : Scope) (result : Result Reviewed KeepFault) where
  pub paired : (old mid new : State) (pairs : Vec (List ℕ × List ℕ) Global)
      → CallsInside old mid (Ok pairs) NoTables (Reading (λ db pairs. AreMembers db pairs.items))
      → (IsTrusted old mid → mid.now ≡ old.now)
      → CallsInside mid new result HasDamagedRow (Reading (IsReviewBy pairs.items question))
      → CallsInside old new result HasDamagedRow (Reading (IsReviewOf question))
  paired old mid new pairs reads same reviews = record {
    stays = stays_on old mid new reads.stays reviews.stays;
    becomes = λ trust.
        let first = trusted_first old mid new reads.stays reviews.stays trust in
        let last = trusted_last old mid new reads.stays reviews.stays trust in
        subst₂ (λ db members. IfOk result (IsReviewBy members question db)) (same first)
        (reads.becomes first) (reviews.becomes last);
    blames = λ trust id is.
        let first = trusted_first old mid new reads.stays reviews.stays trust in
        let last = trusted_last old mid new reads.stays reviews.stays trust in
        subst HasDamagedRow (same first) (reviews.blames last id is);
  }
