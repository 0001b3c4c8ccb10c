-- Who may do what in a store's room, over lists of calls.
use Rattle.std.specs.List.{AllByRecursion}
use Rattle.std.specs.Prelude.{ℕ, ◌⊎◌, List, IsTrue}
use Rattle.sqlite.specs.State.{State, HasCleanDisk}
use Rattle.sqlite.specs.Tree.{Trees}
use Rattle.room_rows.specs.Content.{Content}
use Rattle.room_machine.specs.Run.{Asking, Event, Run}
use Rattle.room_machine.specs.declared.reply.Reply.{Reply}
use Rattle.room_laws.specs.WhoChanged.{FirstGranted, IsHarmless, IsThere, SameBasis, SameRights}
use Rattle.room_store.specs.Crash.{HoldsRoom, IsRoomOf, Lasts}
use Rattle.room_store.specs.Kept.{Keeps}

-- From one state to a later one these things happened. If the tables were those of a sound room, and
-- all was asked by users who in that room may change nothing at a path or above it, then everybody's
-- rights there are in the room that is kept then what they were.
abbrev pub GainsNothing : List (List ℕ) → State → List Event → State → Type 0
GainsNothing path old events new = HasCleanDisk new
    → (room : Content) → IsRoomOf room old.now → IsThere room path
    → AllByRecursion (IsHarmless path room) events
    → (next : Content) × Run room events next × Keeps new next
    × SameBasis path room next × SameRights path room next

-- harmless, whatever the reply is
abbrev pub IsHarmlessAsking : List (List ℕ) → Content → Asking → Type 0
IsHarmlessAsking path room asking = (reply : Reply) → IsHarmless path room (asking reply)

-- The same of whatever a crash leaves, with what was asked for and got no answer.
abbrev pub CrashGainsNothing : List (List ℕ) → State → List Asking → List Event → State → Type 0
CrashGainsNothing path old asked events new = HasCleanDisk new → IsTrue old.is_open → Lasts old
    → (room : Content) → IsRoomOf room old.now → IsThere room path
    → AllByRecursion (IsHarmless path room) events
    → AllByRecursion (IsHarmlessAsking path room) asked
    → (db : Trees) → new.may_leave db
    → (left : Content) × HoldsRoom left db × SameRights path room left

-- From a sound room: everybody's rights at a path are what they were, or one of these events was the
-- first to change them, with the right that its user had for it then.
abbrev pub GrantsChanges : List (List ℕ) → State → List Event → State → Type 0
GrantsChanges path old events new = HasCleanDisk new
    → (room : Content) → IsRoomOf room old.now
    → (next : Content) × Run room events next × Keeps new next
    × (SameRights path room next ⊎ FirstGranted path room events)
