-- What a request inside a transaction blames, and what it leaves of what is remembered.
use Rattle.std.specs.Prelude.{◌≡◌, ℕ}
use Rattle.sqlite.specs.State.{State}
use Rattle.room_remember.specs.declared.memory.Memory.{Memory}
use Rattle.room_remember.specs.Agrees.{AgreesWithRows}
use Rattle.room_rows.specs.Keep.{IsDamaged}
use Rattle.room_rows.specs.Rows.{Rows}
use Rattle.store_tables.specs.Meaning.{rows_of}
use Rattle.store_tables.specs.Trust.{IsTrusted}

-- some row is damaged
abbrev pub HasDamage : Rows → Type 0
HasDamage rows = (row : ℕ) × IsDamaged rows row

-- Calls that only read have left the rows, and what is remembered after them.
pub record IsKept (begun mid : State) (known kept : Memory) : Type 0 where
  pub agrees : IsTrusted begun mid → AgreesWithRows known (rows_of begun.now)
      → AgreesWithRows kept (rows_of mid.now)
  pub same : IsTrusted begun mid → rows_of mid.now ≡ rows_of begun.now
