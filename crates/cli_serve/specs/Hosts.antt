-- What the subcommand `serve` does on an open database (own).
use Rattle.std.specs.Prelude.{◌≡◌, ◌≤◌, ◌⊎◌, ℕ, ℤ, All, List, [], length, map}
use Rattle.std.specs.Prelude.{IsTrue, Option, Result, Ok, Err, ⊤}
use Rattle.sqlite.specs.Effect.{Database}
use Rattle.sqlite.specs.Held.{Held}
use Rattle.sqlite.specs.State.{State, HasCleanDisk}
use Rattle.sqlite.specs.Tree.{Trees}
use Rattle.cli_outcome.specs.declared.listen.ListenAddress.{ListenAddress}
use Rattle.store_schema.specs.declared.fault.OpenFault.{OpenFault}
use Rattle.store_tables.specs.Shown.{HasTables, IsRoom, Retains}
use Rattle.store_tables.specs.Within.{TreesOf}
use Rattle.room_rows.specs.Content.{Content}
use Rattle.room_machine.specs.Desk.{RunsClosed}
use Rattle.room_machine.specs.Run.{Run}
use Rattle.room_store.specs.Crash.{Lasts, Leaves, Outlasts}
use Rattle.room_store.specs.Kept.{IsOfThisVersion, IsShut, IsSound, Keeps, Stores}
use Rattle.room_store.specs.Leads.{Leads}
use Rattle.room_store.specs.Opens.{Opens}
use Rattle.cli_listen.specs.Lines.{TellsAddress}
use Rattle.cli_listen.specs.Peers.{Adds}
use Rattle.cli_listen.specs.Telling.{TellsAll, TurnsDown, end_status, why_not_opened}
use Rattle.cli_listen.specs.Visits.{IsServedVisit, Visit, moment_of, requests_of, unanswered_of}
use Rattle.cli_listen.specs.declared.fault.ServingFault.{ServingFault}
use Rattle.cli_listen.specs.Listening.{Deed, ListensAt}

-- the connection to the database is shut where that ended the service
abbrev pub LeavesShut : Result (Unit {0}) ServingFault → State → Type 0
LeavesShut (Err ServingFault.Desk) new = IsShut new
LeavesShut end new = ⊤

-- From a sound room over an open connection, where the disk has returned what was written: whatever
-- a power cut leaves is a sound room, the one after all requests that were answered. Where a fault,
-- or the power cut itself, has shut the connection, it may be the room after one request more, one
-- of those that got no answer.
abbrev pub LeavesRequests : State → List Visit → State → Type 0
LeavesRequests old visits new = HasCleanDisk new → IsSound old → IsTrue old.is_open
    → (room : Content) → Keeps old room
    → (next : Content) × Run room (requests_of visits) next
    × Leaves (unanswered_of visits) new next

-- The tables of a room, sound or not, that can be opened again, with all records of the room before
-- under their numbers. Records that are new can be read.
pub record IsStillRoom (old it : Database) : Type 0 where
  pub room : IsRoom it
  pub version : IsOfThisVersion it
  pub retains : Retains old.trees it.trees

-- From a room over an open connection, sound or not, where the disk has returned what was written:
-- a power cut leaves such a room and nothing else, whether a fault has shut the connection or not.
-- As long as it is open, such a room is seen.
pub record StaysRoom (old new : State) : Type 0 where
  pub seen : IsTrue new.is_open → HasTables new.now × IsOfThisVersion new.now
      × Retains old.now.trees new.now.trees
  pub left : (db : Trees) → new.may_leave db → TreesOf (IsStillRoom old.now) db

-- The database was not opened as a room: no address was asked for, and nothing was served.
pub record IsTurnedDown (did did' : List Deed → Type 0) (old new : State)
    (out out' err err' : Option (List ℕ)) (status : ℕ) : Type 0 where
  pub why : OpenFault
  pub opens : Opens old new (Err why)
  pub told : TurnsDown (why_not_opened why) out out' err err' status
  pub outlasts : Outlasts old [] [] new
  pub leaves : LeavesRequests old [] new
  pub asked_none : Adds did did' []

-- The requests of at most `count` connections were served, each at the moment that the clock read
-- for it. This address of this machine alone was asked for, and these are all connections that came
-- there: no other peer was met, and nothing else was told to these. All is done, or there was a
-- fault, and what the fault says of the address and of the connections holds. The address was
-- printed before the first of them, and faults of these connections as they came. As long as the
-- connection to the database is open, a power cut leaves what is seen. Whether it is open or not, a
-- power cut leaves all requests that were answered, and at most one that wasn't, as a whole.
pub record ServesRoom (address : ListenAddress) (count : ℕ) (told told' : List ℤ → Type 0)
    (did did' : List Deed → Type 0) (old new : State) (out out' err err' : Option (List ℕ))
    (status : ℕ) : Type 0 where
  pub visits : List Visit
  pub few : length visits ≤ count
  pub each : All IsServedVisit visits
  pub moments : Adds told told' (map moment_of visits)
  pub leads : Leads old (requests_of visits) new
  pub lasts : Lasts new
  pub outlasts : Outlasts old (unanswered_of visits) (requests_of visits) new
  pub leaves : LeavesRequests old visits new
  pub ends : ((status ≡ 0) × TellsAddress address out out') ⊎ (status ≡ 3)
  pub end : Result (Unit {0}) ServingFault
  pub end_is : status ≡ end_status end
  pub listens : ListensAt did did' address count visits end out out'
  pub shut : LeavesShut end new
  pub faults : TellsAll visits end err err'

module _ {S : Type 0} (shown : Held S → State) where
  -- The room was opened, and it served. From before it was opened on, and however damaged it was,
  -- each request was judged by the lists that the rows stored then, and nothing else changed these
  -- rows. A power cut leaves what was answered.
  pub record IsHosted (address : ListenAddress) (count : ℕ) (told told' : List ℤ → Type 0)
      (did did' : List Deed → Type 0) (old new : Held S) (out out' err err' : Option (List ℕ))
      (status : ℕ) : Type 0 where
    pub mid : Held S
    pub opens : Opens (shown old) (shown mid) (Ok tt)
    pub served : ServesRoom address count told told' did did' (shown mid) (shown new) out out' err
        err' status
    pub closed : HasCleanDisk (shown new)
        → RunsClosed (Stores (shown old)) (requests_of served.visits) (Stores (shown new))
    pub outlasts : Outlasts (shown old) (unanswered_of served.visits)
        (requests_of served.visits) (shown new)
    pub leaves : LeavesRequests (shown old) served.visits (shown new)
    pub stays : HasCleanDisk (shown new) → IsTrue (shown old).is_open → HasTables (shown old).now
        → StaysRoom (shown old) (shown new)

  abbrev pub Hosts : ListenAddress → ℕ → (List ℤ → Type 0) → (List ℤ → Type 0)
      → (List Deed → Type 0) → (List Deed → Type 0) → Held S → Held S → Option (List ℕ)
      → Option (List ℕ) → Option (List ℕ) → Option (List ℕ) → ℕ → Type 0
  Hosts address count told told' did did' old new out out' err err' status =
      IsTurnedDown did did' (shown old) (shown new) out out' err err' status
      ⊎ IsHosted address count told told' did did' old new out out' err err' status
