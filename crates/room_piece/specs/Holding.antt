-- What a piece holds.
use Rattle.room_rows.specs.Rows.{AreRows}
use Rattle.room_rows.specs.Sound.{AreSound}
use Rattle.room_memory.specs.Memory.{rows_in}
use Rattle.room_memory.specs.declared.memory.MemKeep.{MemKeep}

-- Its rows are sound.
pub record IsWell (keep : MemKeep) : Type 0 where
  pub rows : AreRows (rows_in keep)
  pub sound : AreSound (rows_in keep)
