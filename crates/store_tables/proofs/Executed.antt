-- What a write over a room's tables leaves of them.
use Rattle.std.proofs.Common.{◌≡◌, true}
use Rattle.sqlite.specs.State.{State}
use Rattle.store_tables.specs.Shown.{IsRoom, Retains}

-- what is known of a write in these tables
abbrev pub WritesRoom : State → State → Type 0
WritesRoom old new =
    (new.committed ≡ old.committed) × IsRoom new.now × (new.in_transaction ≡ true)
    × Retains old.now.trees new.now.trees
