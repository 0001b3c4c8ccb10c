-- A keeper that fails by a count of calls.
use Rattle.std.specs.Prelude.{◌≡◌, ℕ, ◌+◌, ◌==◌, Bool, false, Result, Err, nat_le}
use Rattle.std.specs.Bool.{MatchBool}
use Rattle.test_tree.specs.declared.fail.FailKeep.{FailKeep}
use Rattle.test_tree.specs.declared.fail.Plan.{Plan}
use Rattle.test_tree.specs.declared.fail.Plan.TheVariants.{After, Once, Never}
use Rattle.room_rows.specs.declared.keep.KeepFault.{KeepFault}
use Rattle.room_rows.specs.declared.keep.KeepFault.TheVariants.{Store}

-- whether a call fails that comes after n others
abbrev pub fails_at : Plan → ℕ → Bool
fails_at (After calls) k = nat_le calls k
fails_at (Once calls) k = k == calls
fails_at Never k = false

-- one call was made
abbrev pub Advances : Plan → Plan → Type 0
Advances old new = (k : ℕ) → fails_at new k ≡ fails_at old (k + 1)

-- A call whose turn it is to fail answers `Store` and leaves the keeper below as it was. Any other
-- call meets the contract of that call of the keeper below. Both are counted.
abbrev pub HandsOn : {K X : Type 0} → FailKeep K → FailKeep K → Result X KeepFault → Type 0 → Type 0
HandsOn old new result called =
    MatchBool (fails_at old.plan 0) ((result ≡ Err Store) × (new.keeper ≡ old.keeper)) called
    × Advances old.plan new.plan
