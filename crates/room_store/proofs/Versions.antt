-- The number of the schema, and what is retained.
use Rattle.std.proofs.Common.{arith}
use Rattle.sqlite.specs.{Effect.Database}
use Rattle.store_tables.specs.Shown.{Retains}
use Rattle.room_store.specs.Kept.{IsOfThisVersion}

-- where `meta` is as it was, so is the number of the schema
pub same_version : (old it : Database) → Retains old.trees it.trees → IsOfThisVersion old
    → IsOfThisVersion it
same_version old it retains version = grind (arith, retains.meta, version)
