-- A test whether the connection is open, and what it leaves.
use Rattle.std.proofs.Common.{◌≡◌, ◌⊎◌, ℕ, List, [], IsTrue, inl, inr, sym, ◌∙◌}
use Rattle.sqlite.specs.{Order.Row, declared.error.Error.Error, State.{State, HasCleanDisk}}
use Rattle.sqlite.specs.State.{IsUnchanged, IsRolledBack, IsNotRun}
use Rattle.store_tables.specs.Shown.{Stays}
use Rattle.store_tables.proofs.{Calls.{left_stays, stays_by}, Within.CommitsNothing}

pub left_by : (sql : List ℕ) (old new : State) (params : Row) (why : Error)
    → IsNotRun old new sql params why → IsUnchanged old new ⊎ IsRolledBack old new
unfolding IsNotRun
left_by sql old new params why (inl h) = inl h.1
left_by sql old new params why (inr h) = inr h.3

module _ (old new : State) where
  pub was : IsUnchanged old new ⊎ IsRolledBack old new → IsTrue new.is_open → IsTrue old.is_open
  was (inl same) is = same.0.was_open
  was (inr undone) is = undone.was_open is

  pub same_rows : (IsTrue old.is_open → old.now ≡ old.committed)
      → IsUnchanged old new ⊎ IsRolledBack old new → IsTrue new.is_open → new.now ≡ old.now
  same_rows settled (inl same) is = same.0.now_is
  same_rows settled (inr undone) is =
      (undone.undone is).0 ∙ sym (settled (undone.was_open is))

module _ (sql : List ℕ) (old new : State) (quiet : CommitsNothing old new) where
  pub failed : (why : Error) → (HasCleanDisk new → (params : Row) → IsNotRun old new sql params why)
      → Stays old new
  failed why err =
      stays_by old new quiet
      (λ now. left_stays old new quiet (left_by sql old new [] why (err now [])))
