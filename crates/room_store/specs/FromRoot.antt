-- Each list that is stored is the one that is computed from the root.
use Rattle.std.specs.Prelude.{◌≡◌, ℕ, List, [], map, IsTrue}
use Rattle.sqlite.specs.Effect.{Database}
use Rattle.sqlite.specs.State.{State, HasCleanDisk}
use Rattle.sqlite.specs.Tree.{Trees}
use Rattle.room_entry.specs.Ace.{Ace}
use Rattle.room_entry.specs.declared.object.Which.{Which}
use Rattle.room_rows.specs.Content.{Content, IsContent}
use Rattle.room_rows.specs.Full.{full_in}
use Rattle.room_rows.specs.Held.{held_of, full_of}
use Rattle.room_rows.specs.Meaning.{meaning}
use Rattle.room_rows.specs.Rows.{Rows}
use Rattle.room_inherit.specs.Spread.{IsOwnAncestor}
use Rattle.room_machine.specs.Run.{Event, Run}
use Rattle.store_tables.specs.Meaning.{rows_of}
use Rattle.store_tables.specs.Within.{TreesOf}
use Rattle.room_store.specs.Crash.{IsRoomOf, Lasts}
use Rattle.room_store.specs.Kept.{IsSound, Keeps}

-- the number of each object, and its list as the rows store it: its own entries, and then the
-- inherited ones
abbrev pub stored_lists : Content → Which → List (ℕ × List Ace)
stored_lists rows which = map (λ node. (node.id, full_of (held_of which node))) rows.nodes

-- the number of each object, and its list as it is computed from the root
abbrev pub computed_lists : Content → Which → List (ℕ × List Ace)
computed_lists room which = map (λ node. (node.id, full_in room which node)) room.nodes

-- These rows mean this content, and each list that they store is the one computed from its root.
pub record AreFromRoot (room : Content) (rows : Rows) : Type 0 where
  pub means : meaning rows.read ≡ room
  pub content : IsContent room
  -- each row is that of an object
  pub all_read : rows.unreadable ≡ []
  pub lists : (which : Which) → stored_lists rows.read which ≡ computed_lists room which
  -- no object is its own ancestor
  pub no_loop : (id : ℕ) → IsOwnAncestor rows.read id → ⊥

-- The rows of any sound room are so.
abbrev pub RoomsAreFromRoot : Type 0
RoomsAreFromRoot = (room : Content) (it : Database) → IsRoomOf room it
    → AreFromRoot room (rows_of it)

-- From one state to a later one these things happened. If the room was sound before, and as long as
-- the connection is open, the rows then mean the room after all of them, and each list that they
-- store is the one computed from its root.
abbrev pub StaysFromRoot : State → List Event → State → Type 0
StaysFromRoot old events new = HasCleanDisk new → IsSound old → IsTrue new.is_open
    → (room : Content) → Keeps old room
    → (next : Content) × Run room events next × AreFromRoot next (rows_of new.now)

-- The same of whatever a crash leaves at the later state, if the connection was open before.
abbrev pub CrashLeavesFromRoot : State → State → Type 0
CrashLeavesFromRoot old new = HasCleanDisk new → IsSound old → IsTrue old.is_open → Lasts old
    → (db : Trees) → new.may_leave db
    → (room : Content) × TreesOf (λ it. AreFromRoot room (rows_of it)) db
