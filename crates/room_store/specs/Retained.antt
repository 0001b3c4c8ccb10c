-- What stays of the tables of a room beside their rows, sound or not.
use Rattle.std.specs.Prelude.{IsTrue}
use Rattle.sqlite.specs.Effect.{Database}
use Rattle.sqlite.specs.State.{State, HasCleanDisk}
use Rattle.sqlite.specs.Tree.{Trees}
use Rattle.store_tables.specs.Shown.{HasTables, IsRoom, Retains}
use Rattle.store_tables.specs.Within.{TreesOf}

-- the tables of a room, which retain what those before held
pub record IsRetained (before : Trees) (it : Database) : Type 0 where
  pub room : IsRoom it
  pub retains : Retains before it.trees

-- So do the tables that are seen, as long as the connection is open, and, whether it is open or not,
-- all that a crash may leave.
pub record Holds (before : Trees) (s : State) : Type 0 where
  pub seen : IsTrue s.is_open → HasTables s.now × Retains before s.now.trees
  pub left : (db : Trees) → s.may_leave db → TreesOf (IsRetained before) db

-- What is retained at one state is retained at a later one.
abbrev pub StillHolds : State → State → Type 0
StillHolds old new = HasCleanDisk new
    → HasCleanDisk old × ((before : Trees) → Holds before old → Holds before new)
