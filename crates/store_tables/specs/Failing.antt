-- When the database gives no answer.
use Rattle.std.specs.Prelude.{◌≡◌, ◌<◌, ◌≤◌, ◌-◌, ◌^◌, ◌⊎◌, ℕ, true, Result, Err, IfErr}
use Rattle.std.specs.Prelude.{IsSome, IsTrue}
use Rattle.sqlite.specs.declared.error.Error.{Error}
use Rattle.sqlite.specs.State.{State, HasCleanDisk}
use Rattle.room_rows.specs.declared.keep.KeepFault.{KeepFault}
use Rattle.room_rows.specs.declared.keep.KeepFault.TheVariants.{Store}
use Rattle.store_tables.specs.Seeing.{wants_memory}
use Rattle.store_tables.specs.Tables.{room_schema}
use Rattle.store_tables.specs.Trust.{IsTrusted}

-- a count rose, or was at its end before
abbrev pub HasRisen : ℕ → ℕ → Type 0
HasRisen before after = (before < after) ⊎ (2 ^ 64 - 1 ≤ before)

-- The database failed: its disk failed or refused, which the connection counts, or its queries may
-- take only so many steps.
abbrev pub HasFailed : State → State → Type 0
HasFailed old new = HasRisen old.faults new.faults ⊎ IsSome old.step_limit

-- Over a room's tables the query lacks an answer only for memory, or where the database failed.
abbrev pub FailsSql : {X : Type 0} → State → State → Result X Error → Type 0
FailsSql old new result =
    HasCleanDisk new → IsTrue new.is_open → old.now.schema ≡ room_schema
    → IfErr result (λ why. (wants_memory why ≡ true) ⊎ HasFailed old new)

-- Over a room's tables `Store` comes only where the database failed.
abbrev pub FailsInside : {X : Type 0} → State → State → Result X KeepFault → Type 0
FailsInside begun mid result = IsTrusted begun mid → result ≡ Err Store → HasFailed begun mid
