-- What a crash leaves of a room: what was answered, and of what wasn't, all or nothing.
use Rattle.std.specs.Prelude.{◌≡◌, ◌⊎◌, List, [], ◌∷◌, ◌++◌, Option, Some, IfSome, IsTrue}
use Rattle.sqlite_rules.specs.Lists.{Has}
use Rattle.sqlite.specs.Effect.{Database, IsDatabase}
use Rattle.sqlite.specs.Held.{Held}
use Rattle.sqlite.specs.State.{State, HasCleanDisk}
use Rattle.sqlite.specs.Tree.{Trees}
use Rattle.room_rows.specs.Content.{Content}
use Rattle.room_rows.specs.Meaning.{meaning}
use Rattle.room_rows.specs.Sound.{AreSound}
use Rattle.room_machine.specs.Run.{Asking, Event, Happens, Run}
use Rattle.room_machine.specs.declared.reply.Reply.{Reply}
use Rattle.store_tables.specs.Meaning.{rows_of}
use Rattle.store_tables.specs.Shown.{IsRoom}
use Rattle.store_tables.specs.Within.{LeavesOnly, TreesOf}
use Rattle.room_store.specs.Kept.{IsOfThisVersion, IsShut, IsSound, Keeps}
use Rattle.room_store.specs.Leads.{Leads}

-- As long as the connection is open, the tables obey their schema, and a crash leaves them as they
-- are seen, and nothing else.
abbrev pub Lasts : State → Type 0
Lasts s = IsTrue s.is_open → IsDatabase s.now × LeavesOnly s s.now

-- ---- calls one after another, as a run of the room machine

-- the tables of a sound room of this version, with this content
pub record IsRoomOf (room : Content) (it : Database) : Type 0 where
  pub tables : IsRoom it
  pub sound : AreSound (rows_of it)
  pub version : IsOfThisVersion it
  pub means : meaning (rows_of it).read ≡ room

-- What a crash left are the tables of such a room.
abbrev pub HoldsRoom : Content → Trees → Type 0
HoldsRoom room = TreesOf (IsRoomOf room)

-- From one state to a later one these things happened. As long as the connection is open, whatever
-- a crash leaves is the room after all of them.
abbrev pub LosesNothing : State → List Event → State → Type 0
LosesNothing old events new = HasCleanDisk new → IsSound old → IsTrue new.is_open
    → (room : Content) → Keeps old room
    → (db : Trees) → new.may_leave db → (next : Content) × Run room events next × HoldsRoom next db

-- This asking and no more happened after that content, whatever its reply.
abbrev pub HoldsRoomAfter : Content → Trees → Asking → Type 0
HoldsRoomAfter room db happens = (reply : Reply) × (next : Content)
    × Happens room (happens reply) next × HoldsRoom next db

-- A crash leaves this room. Or, where a fault has shut the connection, the room after this one thing
-- more, if there is one, which was asked for and got no answer.
abbrev pub LeavesAtMost : Option Asking → State → Content → Type 0
LeavesAtMost more s room = (db : Trees) → s.may_leave db → HoldsRoom room db
    ⊎ (IsShut s × (happens : Asking) × (more ≡ Some happens) × HoldsRoomAfter room db happens)

-- The same of one of these, which is the same one whatever a crash leaves.
abbrev pub Leaves : List Asking → State → Content → Type 0
Leaves asked s room = (more : Option Asking) × IfSome more (Has asked) × LeavesAtMost more s room

-- From one state to a later one these were asked for and got no answer. If this one thing may have
-- been there before, this one may be there after that: over a connection that was shut it is the
-- same one, and over one that a fault has shut since then, it is one of these.
pub record IsOneMore (old : State) (asked : List Asking) (new : State)
    (before after : Option Asking) : Type 0 where
  pub same : IsShut old → IsShut new × (after ≡ before)
  pub one : IsTrue old.is_open → IsShut new → IfSome after (Has asked)

-- From one state to a later one these things happened, and these were asked for and got no answer.
-- A crash leaves all of the first, and at most one of the others.
pub record Outlasts (old : State) (asked : List Asking) (events : List Event) (new : State)
    : Type 0 where
  pub leads : Leads old events new
  pub leaves : HasCleanDisk new → IsSound old → (room : Content) → Keeps old room
      → (before : Option Asking) → LeavesAtMost before old room
      → (next : Content) × Run room events next × Keeps new next
      × (after : Option Asking) × IsOneMore old asked new before after × LeavesAtMost after new next

-- ---- over any list of calls

-- what a call asked for without an answer, what happened by it, and the connection then
abbrev pub Try : Type 0 → Type 0
Try S = List Asking × (List Event × Held S)

module _ {S : Type 0} (shown : Held S → State) where
  -- one call after another, the first on this connection
  abbrev pub OutlastsOn : Held S → List (Try S) → Type 0
  OutlastsOn first [] = Unit {0}
  OutlastsOn first (call ∷ calls) =
      Outlasts (shown first) call.0 call.1.0 (shown call.1.1) × OutlastsOn call.1.1 calls

abbrev pub all_asked : {S : Type 0} → List (Try S) → List Asking
all_asked [] = []
all_asked (call ∷ calls) = call.0 ++ all_asked calls

abbrev pub all_happened : {S : Type 0} → List (Try S) → List Event
all_happened [] = []
all_happened (call ∷ calls) = call.1.0 ++ all_happened calls

abbrev pub left_by : {S : Type 0} → Held S → List (Try S) → Held S
left_by first [] = first
left_by first (call ∷ calls) = left_by call.1.1 calls

-- From a sound room over an open connection: whatever a crash leaves is a sound room, the one after
-- all that happened. Where a fault has shut the connection, one thing more may have happened, as a
-- whole, which was asked for and got no answer.
abbrev pub LeavesWhole : State → List Asking → List Event → State → Type 0
LeavesWhole old asked events new = HasCleanDisk new → IsSound old → IsTrue old.is_open → Lasts old
    → (room : Content) → Keeps old room
    → (next : Content) × Run room events next × Leaves asked new next
