-- A sound room can be opened again, and so can whatever a crash leaves of one.
use Rattle.std.proofs.Common.{arith, rules, ◌≡◌, ℤ, List, Option, Some, Result, Ok, Err, IfErr, pos}
use Rattle.std.proofs.Common.{refl, sym, ap, ◌∙◌}
use Rattle.sqlite.specs.{Effect.Database, Held.Held, State.State, Tree.Trees}
use Rattle.room_rows.specs.{Content.Content, Meaning.meaning}
use Rattle.room_machine.specs.Run.{Asking, Event}
use Rattle.store_schema.specs.{NewRoom.meta_of, Opening.{IsFailure, Says}}
use Rattle.store_schema.specs.declared.fault.OpenFault.{OpenFault, TheVariants.NotRooms}
use Rattle.store_schema.specs.declared.fault.OpenFault.TheVariants.{OldVersion, NewVersion}
use Rattle.store_schema.specs.declared.fault.OpenFault.TheVariants.{Db, Memory}
use Rattle.store_tables.specs.{Meaning.rows_of, Within.TreesOf}
use Rattle.room_store.specs.{Crash.{HoldsRoom, LeavesWhole}, Opens.{CanBeOpened, CrashLeavesARoom}}
use Rattle.room_store.specs.Opens.{RoomsCanBeOpened}

-- the same number stands there
same_number : (version : Option ℤ) (n wanted : ℤ) → version ≡ Some wanted → version ≡ Some n
    → n ≡ wanted
same_number version n wanted is has = grind (arith, has, is)

-- where the number is that of this version, no answer says otherwise
says_failure : (wanted : ℤ) (version : Option ℤ) (result : Result (Unit {0}) OpenFault)
    → version ≡ Some wanted → Says wanted version result → IfErr result IsFailure
says_failure wanted version (Ok done) is says = tt
says_failure wanted version (Err NotRooms) is says = absurd (let e = sym says ∙ is in cc)
says_failure wanted version (Err (OldVersion n)) is says =
    grind (arith, same_number, is, says.0, says.1)
says_failure wanted version (Err (NewVersion n)) is says =
    grind (arith, same_number, is, says.0, says.1)
says_failure wanted version (Err Db) is says = tt
says_failure wanted version (Err Memory) is says = tt

module _ {S : Type 0} (shown : Held S → State) where
  pub rooms_can_be_opened : RoomsCanBeOpened shown
  rooms_can_be_opened room it is old new result here opens now =
      let schema = ap (λ (db : Database). db.schema) here ∙ is.tables.schema in
      says_failure (pos 2) (meta_of (shown old).now) result
      (ap (λ (db : Database). meta_of db) here ∙ is.version) (opens.adopts.told now schema)

  held : RoomsCanBeOpened shown → (room : Content) (db : Trees) → HoldsRoom room db
      → TreesOf (CanBeOpened shown) db
  held rooms room db holds = (holds.0, rooms room holds.0 holds.1, holds.2)

  pub crash_leaves_a_room : RoomsCanBeOpened shown → (old new : State) (asked : List Asking)
      (events : List Event) → LeavesWhole old asked events new → CrashLeavesARoom shown old new
  crash_leaves_a_room rooms old new asked events whole now sound is_open lasts db left =
      let it = whole now sound is_open lasts (meaning (rows_of old.now).read) (λ _. refl) in
      search (rules, it.2.2, db, left, held, rooms, it.0)
