-- What fetching a document over any keeper is, in terms of a transaction.
use Rattle.std.proofs.Common.{ℕ, List, Result, IfOk, IfErr}
use Rattle.sqlite.specs.State.{State}
use Rattle.room_rows.specs.{declared.keep.KeepFault.KeepFault, Keep.{HasCause, IsDamaged}}
use Rattle.room_rows.proofs.Steps.{blames_caused}
use Rattle.room_dump.specs.{Fetching.IsFetched, declared.fetching.Fetched.Fetched}
use Rattle.store_tables.specs.{Meaning.rows_of, Shown.Stays, Trust.IsTrusted}
use Rattle.store_tables.specs.Carries.{CallsInside, Reading, HasDamagedRow}

-- a document by the keeper
pub fetched_by : (path : List (List ℕ)) (result : Result Fetched KeepFault) (begun mid : State)
    (before after : ℕ) → Stays begun mid
    → (IsTrusted begun mid → IfOk result (IsFetched path (rows_of begun.now)))
    → IfErr result
    (HasCause before after (λ at. IsTrusted begun mid → IsDamaged (rows_of begun.now) at))
    → CallsInside begun mid result HasDamagedRow
    (Reading (λ db fetched. IsFetched path (rows_of db) fetched))
fetched_by path result begun mid before after stays answers fault = record {
  stays = stays;
  becomes = answers;
  blames =
      λ trust id is. (
        id,
        blames_caused result before after id
            (λ at. IsTrusted begun mid → IsDamaged (rows_of begun.now) at) fault is trust,
      );
}
