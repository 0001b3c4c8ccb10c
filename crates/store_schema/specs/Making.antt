-- What the statements that make a room leave of a database.
use Rattle.std.specs.Prelude.{◌≡◌, ◌≤◌, ℕ, List, [], ◌∷◌, Result, Err, OnOk, OnErr, IsTrue, false}
use Rattle.std.specs.Prelude.{Some, pos, if◌then◌else◌}
use Rattle.std.specs.List.{AllByRecursion}
use Rattle.sqlite.specs.Schema.{Schema}
use Rattle.sqlite.specs.Effect.{Database}
use Rattle.sqlite.specs.Tree.{Trees}
use Rattle.sqlite.specs.State.{State, HasCleanDisk}
use Rattle.sqlite.specs.declared.error.Error.{Error}
use Rattle.sqlite_trees.specs.View.{doubt}
use Rattle.store_tables.specs.Within.{IsWithin, LeavesOnly, LeavesOrCommits, TreesOf}
use Rattle.store_tables.specs.Seeing.{wants_memory}
use Rattle.store_tables.specs.Tables.{no_schema, room_schema}
use Rattle.store_tables.specs.Trees as tree
use Rattle.store_schema.specs.NewRoom.{IsNewRoom, meta_of, version_row}
use Rattle.store_schema.specs.declared.fault.CreateFault.{CreateFault}
use Rattle.store_schema.specs.declared.fault.CreateFault.TheVariants.{Memory, Db}
use Rattle.room_entry.specs.declared.parties.Owners.{Owners}

-- the tables are these, and those of these trees have no row
pub record HasEmpty (schema : Schema) (trees : List ℕ) (db : Database) : Type 0 where
  pub has : db.schema ≡ schema
  pub empty : AllByRecursion (λ tree. db.trees tree ≡ []) trees

-- From a database of the first kind a call that succeeds leads to one of the second kind.
pub record Makes {X E : Type 0} (Before After : Database → Type 0) (old new : State)
    (result : Result X E) : Type 0 where
  pub makes : HasCleanDisk new → Before old.now → OnOk result (After new.now)
  pub within : IsWithin old new

-- a room's tables with the schema's number, and nothing else
pub record IsBare (db : Database) : Type 0 where
  pub has : db.schema ≡ room_schema
  pub empty : AllByRecursion (λ tree. db.trees tree ≡ []) (0 ∷ 2 ∷ 3 ∷ 7 ∷ 8 ∷ [])
  pub version : meta_of db ≡ Some (pos 2)
  pub meta : db.trees tree.meta ≡ version_row ∷ []

-- the fault for a statement or a commit that fails
abbrev pub create_fault_of : Error → CreateFault
create_fault_of why = if wants_memory why then Memory else Db

-- what making a room commits, if it gets that far
abbrev pub CommitsRoom : Owners → Database → Trees → Type 0
CommitsRoom owners old db = (old.schema ≡ no_schema) × TreesOf (IsNewRoom owners) db

-- What making a room is.
pub record Founds (owners : Owners) (old new : State)
    (result : Result (Unit {0}) CreateFault) : Type 0 where
  pub ended : new.in_transaction ≡ false
  pub clean : doubt old.is_clean ≤ doubt new.is_clean
  pub was_open : HasCleanDisk new → IsTrue new.is_open → IsTrue old.is_open
  -- an empty database becomes a new room, which is committed
  pub made : HasCleanDisk new → OnOk result ((old.now.schema ≡ no_schema)
      × IsNewRoom owners new.now × (new.committed ≡ new.now) × IsTrue new.is_open)
  -- one with a table, an index or a view is refused, and nothing is changed
  pub refused : ¬ (old.now.schema ≡ no_schema) → (result ≡ Err Db) × (new.now ≡ old.now)
      × (new.committed ≡ old.committed)
  -- after a fault the tables are as they were
  pub kept : HasCleanDisk new → IsTrue new.is_open → OnErr result ((new.now ≡ old.now)
      × (new.committed ≡ old.committed))
  -- a crash leaves what it could leave before, or of an empty database the new room
  pub crash : LeavesOrCommits old new (CommitsRoom owners old.now)
  -- and once the room is answered, the room
  pub lasts : HasCleanDisk new → OnOk result (LeavesOnly new new.now)
