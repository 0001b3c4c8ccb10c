-- What one program after another does with one file: servers, and the operator's tasks between them
-- (own).
use Rattle.std.specs.Prelude.{◌≡◌, ◌⊎◌, ℕ, List, [], ◌∷◌, ◌++◌, IsTrue}
use Rattle.sqlite_rules.specs.Lists.{Has}
use Rattle.sqlite.specs.Effect.{Database}
use Rattle.sqlite.specs.Held.{Held}
use Rattle.sqlite.specs.State.{State, HasCleanDisk}
use Rattle.sqlite.specs.Tree.{Trees}
use Rattle.room_rows.specs.Content.{Content}
use Rattle.room_rows.specs.Rows.{Rows}
use Rattle.room_machine.specs.Desk.{RunsClosed}
use Rattle.room_machine.specs.Run.{Asking, ClosedRun, Event, HappensClosed, Replaced, Run, WasReset}
use Rattle.room_machine.specs.declared.reply.Reply.{Reply}
use Rattle.room_laws.specs.Outside.{SameOutside}
use Rattle.room_laws.specs.Twins.{AnswersAlike, AreAlike, Turn, first_events, front_at_end}
use Rattle.room_laws.specs.Twins.{second_events}
use Rattle.store_tables.specs.Meaning.{rows_of}
use Rattle.store_tables.specs.Shown.{HasTables}
use Rattle.store_tables.specs.Tables.{room_schema}
use Rattle.store_tables.specs.Within.{LeavesAsBefore, LeavesOrCommits}
use Rattle.store_admin.specs.Changing.{changed}
use Rattle.room_store.specs.Crash.{HoldsRoom, IsRoomOf, Lasts}
use Rattle.room_store.specs.Kept.{IsOfThisVersion, IsShut, Stores}
use Rattle.cli_listen.specs.Visits.{Visit, requests_of, unanswered_of}
use Rattle.cli_serve.specs.Hosts.{IsStillRoom, LeavesRequests, StaysRoom}
use Rattle.cli_act.specs.Acting.{CommitsTask}
use Rattle.cli_act.specs.Doing.{DoesTask}
use Rattle.cli_answer.specs.declared.outcome.Outcome.{Outcome}
use Rattle.cli_answer.specs.declared.outcome.Outcome.TheVariants.{Answer}
use Rattle.cli_answer.specs.declared.outcome.TaskAnswer.TheVariants as answer
use Rattle.cli_words.specs.declared.judging.Task.{Task}
use Rattle.cli_words.specs.declared.judging.Task.TheVariants as task
use Rattle.cli_words.specs.declared.judging.RoomTask.TheVariants as room
use Rattle.cli_runs.specs.Gains.{EachByRight}

-- ---- one use of the file

-- What a program did: it served these connections, or found no room that it could serve, or did this
-- task, with this outcome.
pub data Work : Type 0 where
  Served : List Visit → Work
  TurnedDown : Work
  Did : Task → Outcome → Work

-- what a program did, and its connection before and after
abbrev pub Use : Type 0 → Type 0
Use S = Work × Held S × Held S

-- What `host` promises of a room that it served, as far as the file shows it.
pub record Serves (old : State) (visits : List Visit) (new : State) : Type 0 where
  pub leaves : LeavesRequests old visits new
  pub closed : HasCleanDisk new → RunsClosed (Stores old) (requests_of visits) (Stores new)
  pub lasts : Lasts new
  pub stays : HasCleanDisk new → IsTrue old.is_open → HasTables old.now → StaysRoom old new

-- Where a program begins: its connection is open, outside of a transaction, so that a power cut
-- would leave what is seen; and what was left has the tables of a room.
pub record Begins (s : State) : Type 0 where
  pub is_open : IsTrue s.is_open
  pub lasts : Lasts s
  pub tables : s.now.schema ≡ room_schema

module _ {S : Type 0} (shown : Held S → State) where
  -- What `act` promises, as far as the file shows it.
  pub record Acted (work : Task) (old : Held S) (outcome : Outcome) (new : Held S) : Type 0 where
    pub does : DoesTask shown work old outcome new
    pub outlasts : LeavesOrCommits (shown old) (shown new) (CommitsTask work (shown old))
    pub lasts : Lasts (shown new)

  abbrev pub IsDone : Work → Held S → Held S → Type 0
  IsDone (Served visits) old new = Serves (shown old) visits (shown new)
  IsDone TurnedDown old new = LeavesAsBefore (shown old) (shown new)
  IsDone (Did work outcome) old new = Acted work old outcome new

  -- The disk has returned what was written.
  pub record IsUse (one : Use S) : Type 0 where
    pub begins : Begins (shown one.1)
    pub done : IsDone one.0 one.1 one.2
    pub clean : HasCleanDisk (shown one.2)

-- ---- what happened in the room

-- the operator's step by which a task changes a room with these members, if it changes any
abbrev pub Operates : Task → List (List ℕ × List ℕ) → Event → Type 0
Operates (task.Init owners) members event = ⊥
Operates task.Migrate members event = ⊥
Operates (task.OnRoom (room.Groups pairs)) members event = event ≡ Replaced pairs
Operates (task.OnRoom (room.Change joins leaves)) members event =
    event ≡ Replaced (changed joins leaves members)
Operates (task.OnRoom (room.Reset path which sent)) members event =
    (reply : Reply) × (event ≡ WasReset path which sent reply)
Operates (task.OnRoom work) members event = ⊥

-- the outcome says that the members, or the list, are now what the task asks
abbrev pub SaysDone : Task → Outcome → Type 0
SaysDone (task.OnRoom (room.Groups pairs)) outcome =
    (groups members : ℕ) × (outcome ≡ Answer (answer.Replaced groups members))
SaysDone (task.OnRoom (room.Change joins leaves)) outcome =
    (joined left members : ℕ) × (outcome ≡ Answer (answer.Changed joined left members))
SaysDone (task.OnRoom (room.Reset path which sent)) outcome = outcome ≡ Answer answer.ListSet
SaysDone work outcome = ⊥

-- What happens by a use, in the room that it finds. By a server, all requests that were answered;
-- and where a fault or a power cut has shut its connection, at most one more, of those that got no
-- answer. By a task, its one step; or nothing, if its outcome doesn't say that it is done.
abbrev pub Brings : Work → State → Content → List Event → Type 0
Brings (Served visits) new found events = (events ≡ requests_of visits)
    ⊎ (IsShut new × (asking : Asking) × Has (unanswered_of visits) asking × (reply : Reply)
    × (events ≡ requests_of visits ++ asking reply ∷ []))
Brings TurnedDown new found events = events ≡ []
Brings (Did work outcome) new found events = ((events ≡ []) × (SaysDone work outcome → ⊥))
    ⊎ ((event : Event) × Operates work found.members event × (events ≡ event ∷ []))

-- The same of rows that needn't be sound. Of a server whose connection is shut it is left open.
abbrev pub Closes : Work → State → Rows → Rows → Type 0
Closes (Served visits) new found next = ClosedRun found (requests_of visits) next ⊎ IsShut new
Closes TurnedDown new found next = next ≡ found
Closes (Did work outcome) new found next = ((next ≡ found) × (SaysDone work outcome → ⊥))
    ⊎ ((event : Event) × Operates work found.read.members event × HappensClosed found event next)

-- ---- one use after another

module _ {S : Type 0} (shown : Held S → State) where
  -- Each finds what the one before it may have left, at its end or at a power cut.
  abbrev pub Follow : Use S → List (Use S) → Type 0
  Follow one [] = IsUse shown one
  Follow one (next ∷ uses) =
      IsUse shown one × (shown one.2).may_leave (shown next.1).now.trees × Follow next uses

  abbrev pub connection_after : Use S → List (Use S) → Held S
  connection_after one [] = one.2
  connection_after one (next ∷ uses) = connection_after next uses

  -- what may be found after them
  abbrev pub MayBeLeft : Use S → List (Use S) → Trees → Type 0
  MayBeLeft first uses db = (shown (connection_after first uses)).may_leave db

  -- From the first room to the other one this happened by these uses, in their order.
  abbrev pub HappenBy : List (Use S) → Content → List Event → Content → Type 0
  HappenBy [] found events left = (events ≡ []) × (left ≡ found)
  HappenBy (one ∷ uses) found events left = (now later : List Event) × (mid : Content)
      × (events ≡ now ++ later) × Brings one.0 (shown one.2) found now × Run found now mid
      × HappenBy uses mid later left

  -- What happened from this room on, up to the sound room that was left.
  pub record History (first : Use S) (uses : List (Use S)) (found : Content) (db : Trees)
      : Type 0 where
    pub events : List Event
    pub left : Content
    pub happened : HappenBy (first ∷ uses) found events left
    pub run : Run found events left
    pub holds : HoldsRoom left db

  -- From a sound room: whatever is left after these uses, there is such a history.
  abbrev pub LeaveWholeRequests : Use S → List (Use S) → Type 0
  LeaveWholeRequests first uses = (found : Content) → IsRoomOf found (shown first.1).now
      → (db : Trees) → MayBeLeft first uses db → History first uses found db

  -- In it each request left everybody's rights as they were, or its caller had the right to alter
  -- them; and so each step of the operator, who may alter those at the object that a list was set
  -- of and below, and by members all.
  abbrev pub ChangeByRight : Use S → List (Use S) → Type 0
  ChangeByRight first uses = (found : Content) → IsRoomOf found (shown first.1).now
      → (db : Trees) → MayBeLeft first uses db
      → (it : History first uses found db) × EachByRight it.events found it.left it.run

  -- ---- on any rows

  abbrev pub CloseBy : List (Use S) → Rows → Rows → Type 0
  CloseBy [] found left = left ≡ found
  CloseBy (one ∷ uses) found left =
      (mid : Rows) × Closes one.0 (shown one.2) found mid × CloseBy uses mid left

  -- From a room of this version, sound or not: whatever is left is such a room, with all records
  -- under their numbers. Each request was judged by the lists that the rows stored then, and changed
  -- nothing else; and so each step of the operator.
  abbrev pub StayClosed : Use S → List (Use S) → Type 0
  StayClosed first uses =
      HasTables (shown first.1).now → IsOfThisVersion (shown first.1).now
      → (db : Trees) → MayBeLeft first uses db
      → (it : Database) × IsStillRoom (shown first.1).now it × (db ≡ it.trees)
      × CloseBy (first ∷ uses) (rows_of (shown first.1).now) (rows_of it)

-- ---- two files beside each other

-- Of two sound rooms that are the same outside the front: whatever is left of each, there are such
-- histories. What happened in both up to any turn got the same replies, if the turns are alike so
-- far. If that was all, the rooms that are left are the same outside too.
abbrev pub AnswerAlikeOver : {S T : Type 0} → (Held S → State) → (Held T → State)
    → List (List ℕ) → Use S → List (Use S) → Use T → List (Use T) → Type 0
AnswerAlikeOver shown seen front first uses other others =
    (a b : Content) → IsRoomOf a (shown first.1).now → IsRoomOf b (seen other.1).now
    → SameOutside front a b
    → (db beside : Trees) → MayBeLeft shown first uses db → MayBeLeft seen other others beside
    → (one : History shown first uses a db) × (two : History seen other others b beside)
    × ((turns : List Turn) (rest more : List Event) → first_events turns ++ rest ≡ one.events
    → second_events turns ++ more ≡ two.events
    → ((next : Content) (run : Run a (first_events turns) next) → AreAlike front turns a next run)
    → AnswersAlike front turns
    × (rest ≡ [] → more ≡ [] → SameOutside (front_at_end front turns) one.left two.left))
