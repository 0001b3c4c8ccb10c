-- A transaction begins, and its commit fails.
use Rattle.std.proofs.Common.{◌≡◌, ◌≤◌, ◌∙◌, IsTrue, sym, ap, true, false, arith, inl, inr, Result}
use Rattle.std.proofs.lemmas.Bool.Decides.{nat_tests}
use Rattle.sqlite_trees.specs.{View.doubt, declared.store.Store.Ghosts}
use Rattle.sqlite.specs.{Held.{Held, state}, State.{State, HasCleanDisk, IsRolledBack, IsUnchanged}}
use Rattle.sqlite.specs.{Steps.FailsToCommit, Tree.Trees, declared.error.Error.Error}
use Rattle.store_schema.specs.Opening.{FailsByDisk, FailsToRead}
use Rattle.store_schema.specs.declared.fault.OpenFault.{OpenFault}
use Rattle.store_tables.{specs.Within.IsWithin, proofs.Failing.{Counts, around}}

-- a transaction begins
pub record Begins (old begun : State) : Type 0 where
  pub now : begun.now ≡ old.now
  pub committed : begun.committed ≡ old.committed
  pub same_open : begun.is_open ≡ old.is_open
  pub same_clean : begun.is_clean ≡ old.is_clean
  pub mode : begun.in_transaction ≡ true
  pub settled : IsTrue old.is_open → old.now ≡ old.committed
  pub left : (db : Trees) → begun.may_leave db → old.may_leave db

pub begins_by : {S : Type 0} (g : Ghosts S) (h begun : Held S)
    → begun ≡ record h { in_transaction = true }
    → (IsTrue (state g h).is_open → (state g h).now ≡ (state g h).committed)
    → Begins (state g h) (state g begun)
begins_by g h begun is settled = grind (arith, nat_tests)

module _ (old begun mid end : State) (begins : Begins old begun)
    (clean : doubt mid.is_clean ≤ doubt end.is_clean) (within : IsWithin begun mid) where
  pub clean_mid : HasCleanDisk end → HasCleanDisk mid
  clean_mid h = omega arith

  pub since : doubt old.is_clean ≤ doubt end.is_clean
  since = let same : doubt begun.is_clean ≡ doubt old.is_clean = ap doubt begins.same_clean in
      omega (arith, same, within.clean, clean)

  pub open_first : HasCleanDisk end → IsTrue mid.is_open → IsTrue old.is_open
  open_first now open' = sym begins.same_open ∙ within.was_open (clean_mid now) open'

  pub left_first : HasCleanDisk end → (db : Trees) → mid.may_leave db → old.may_leave db
  left_first now db left = begins.left db (within.crash (clean_mid now) db left)

  committed_mid : HasCleanDisk end → IsTrue mid.is_open → mid.committed ≡ old.committed
  committed_mid now open' = within.committed (clean_mid now) open' ∙ begins.committed

  back_at : HasCleanDisk end → IsTrue mid.is_open → end.now ≡ mid.committed
      → end.committed ≡ mid.committed → (end.now ≡ old.now) × (end.committed ≡ old.committed)
  back_at now open' seen kept = grind (arith, nat_tests, committed_mid, open_first)

  undone_at : HasCleanDisk end → IsTrue end.is_open → IsRolledBack mid end
      → (end.now ≡ old.now) × (end.committed ≡ old.committed)
  undone_at now open' back =
      back_at now (back.was_open open') (back.undone open').0 (back.undone open').1

  same_at : HasCleanDisk end → mid.in_transaction ≡ false → IsUnchanged mid end
      → (end.now ≡ old.now) × (end.committed ≡ old.committed)
  same_at now mode same = grind (arith, nat_tests, back_at, clean_mid)

  refused_at : (why : Error) → HasCleanDisk end → IsTrue end.is_open → FailsToCommit mid end why
      → (end.now ≡ old.now) × (end.committed ≡ old.committed)
  refused_at why now open' (inl failed) = undone_at now open' failed.3
  refused_at why now open' (inr late) = same_at now late.1 late.2

  -- a commit that fails undoes the transaction, and opens no connection
  pub failed_back : (why : Error) → (HasCleanDisk end → FailsToCommit mid end why)
      → HasCleanDisk end → IsTrue end.is_open
      → (end.now ≡ old.now) × (end.committed ≡ old.committed)
  failed_back why err now open' = refused_at why now open' (err now)

pub open_mid : (mid end : State) (why : Error) → IsTrue end.is_open → FailsToCommit mid end why
    → IsTrue mid.is_open
open_mid mid end why open' (inl failed) = failed.3.was_open open'
open_mid mid end why open' (inr late) = late.2.0.was_open

-- a transaction that only read is rolled back, and what failed in it was counted
pub fails_back : (old begun mid end : State) (result : Result (Unit {0}) OpenFault)
    → begun.now.schema ≡ old.now.schema → Counts old begun mid end
    → doubt mid.is_clean ≤ doubt end.is_clean → (HasCleanDisk end → IsRolledBack mid end)
    → FailsToRead begun mid result → FailsByDisk old end result
fails_back old begun mid end result same counts clean back fails now is_open has told =
    around old begun mid end counts
    (fails (omega (arith, now)) ((back now).was_open is_open) (same ∙ has) told)
