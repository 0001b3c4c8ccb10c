-- What calls inside one transaction answer and leave.
use Rattle.std.specs.Prelude.{◌≡◌, ℕ, Some, Result, IfOk, IsErrAnd, OnOk, IsTrue}
use Rattle.sqlite.specs.Effect.{Database}
use Rattle.sqlite.specs.State.{State, HasCleanDisk}
use Rattle.room_rows.specs.declared.keep.KeepFault.{KeepFault}
use Rattle.room_rows.specs.Keep.{IsDamaged, blamed_by}
use Rattle.room_rows.specs.Rows.{Rows}
use Rattle.store_tables.specs.Meaning.{rows_of}
use Rattle.store_tables.specs.Shown.{Stays}
use Rattle.store_tables.specs.Trust.{IsTrusted}

-- Over a room's tables an answer says what became of them, and a fault that blames a row, or the
-- root that is missing, comes for tables that the relation names.
pub record CallsInside {X : Type 0} (begun mid : State) (result : Result X KeepFault)
    (Blames : Database → Type 0) (Becomes : Database → X → Database → Type 0) : Type 0 where
  pub stays : Stays begun mid
  pub becomes : IsTrusted begun mid → IfOk result (λ answer. Becomes begun.now answer mid.now)
  pub blames : IsTrusted begun mid → (id : ℕ)
      → IsErrAnd result (λ why. blamed_by why ≡ Some id) → Blames begun.now

-- a relation on rows, as one on tables
abbrev pub OnRows : (Rows → Type 0) → Database → Type 0
OnRows Blames db = Blames (rows_of db)

abbrev pub ByRows : {X : Type 0} → (Rows → X → Rows → Type 0) → Database → X → Database → Type 0
ByRows Becomes old answer new = Becomes (rows_of old) answer (rows_of new)

-- what a call answers by the tables that it reads
abbrev pub Reading : {X : Type 0} → (Database → X → Type 0) → Database → X → Database → Type 0
Reading Answers old answer new = Answers old answer

-- Over a connection that is shut there is no answer.
abbrev pub AnswersOpen : {X E : Type 0} → State → State → Result X E → Type 0
AnswersOpen old new result =
    HasCleanDisk new → OnOk result (IsTrue old.is_open × IsTrue new.is_open)

-- no table
abbrev pub NoTables : Database → Type 0
NoTables db = ⊥

-- some row is damaged
abbrev pub HasDamagedRow : Database → Type 0
HasDamagedRow db = (row : ℕ) × IsDamaged (rows_of db) row
