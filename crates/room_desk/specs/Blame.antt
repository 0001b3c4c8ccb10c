-- From sound rows no request blames a row.
use Rattle.std.specs.Prelude.{ℕ, List}
use Rattle.room_rows.specs.Keep.{IsDamaged}
use Rattle.room_rows.specs.Rows.{Rows}
use Rattle.room_rows.specs.Sound.{AreSound}
use Rattle.room_desk.specs.declared.running.Asked.{Asked}
use Rattle.room_desk.specs.InTurn.{IsDamagedAfter}

abbrev pub SoundIsUndamaged : Type 0
SoundIsUndamaged = (rows : Rows) (row : ℕ) → AreSound rows → IsDamaged rows row → ⊥

-- nor do several requests, one after another
abbrev pub SoundStaysUndamaged : Type 0
SoundStaysUndamaged =
    (asked : List Asked) (rows : Rows) (row : ℕ) → AreSound rows → IsDamagedAfter asked rows row → ⊥
