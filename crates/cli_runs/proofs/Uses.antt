-- What one use of a file leaves of a room, sound or not.
use Rattle.std.proofs.Common.{◌≡◌, ◌⊎◌, Bool, true, false, true≢false, List, [], ◌∷◌, ◌++◌, Option}
use Rattle.std.proofs.Common.{Some, IfSome, IsTrue, inl, inr, refl, sym, ap, subst, ◌∙◌, arith}
use Rattle.std.proofs.lemmas.Bool.{cases_Bool}
use Rattle.sqlite_rules.specs.Lists.{Has}
use Rattle.sqlite.specs.{Effect.Database, Held.Held, Schema.Schema, State.{State, HasCleanDisk}}
use Rattle.sqlite.specs.{Table.Table, Tree.Trees}
use Rattle.room_rows.specs.{Content.Content, Meaning.meaning, Rows.Rows, Sound.AreSound}
use Rattle.room_inherit.specs.Laws.{SoundIsNoFault}
use Rattle.room_machine.specs.Run.{Asking, ClosedRun, Event, Happens, HappensClosed, Replaced, Run}
use Rattle.room_machine.specs.Run.{RunsMeet, WasReset}
use Rattle.store_tables.specs.{Meaning.rows_of, Tables.{no_schema, room_schema}, Shown.HasTables}
use Rattle.store_tables.specs.{Shown.{IsRoom, Retains, room_of, tables_of}, Within.LeavesAsBefore}
use Rattle.store_tables.{specs.Within.TreesOf, proofs.Calls.retains_same}
use Rattle.room_store.specs.Crash.{HoldsRoom, HoldsRoomAfter, IsRoomOf, Lasts}
use Rattle.room_store.{specs.Kept.{IsOfThisVersion, IsShut}, proofs.Leading.{IsEvent, was_reset}}
use Rattle.room_store.proofs.{Outlasting.seen_is_left, Versions.same_version}
use Rattle.store_runs.proofs.Rooms.{keeps, sound}
use Rattle.cli_listen.specs.Visits.{Visit, requests_of, unanswered_of}
use Rattle.cli_serve.specs.Hosts.{IsStillRoom}
use Rattle.cli_act.specs.Acting.{CommitsTask}
use Rattle.cli_answer.specs.declared.outcome.Outcome.{Outcome}
use Rattle.cli_words.specs.declared.judging.Task.{Task}
use Rattle.cli_runs.specs.Uses.{Begins, Brings, Closes, Did, IsDone, Operates, Served, Serves}
use Rattle.cli_runs.{specs.Uses.{TurnedDown, Work}, proofs.{Members.was_replaced, Tasks.IsSettled}}
use Rattle.cli_runs.proofs.Tasks.{settled}
use Rattle.cli_words.specs.declared.judging.Task.TheVariants as task
use Rattle.cli_words.specs.declared.judging.RoomTask.TheVariants as room

-- what has a room's tables and the trees of a room is that room
pub same_room : (a b : Database) → a.schema ≡ room_schema → IsRoom b → a.trees ≡ b.trees → a ≡ b
same_room a b tables room trees =
    let schema = room.schema in grind (arith, a, tables, b, schema, trees, a.trees, b.schema)

abbrev has_tables : List Table → Bool
has_tables [] = false
has_tables (t ∷ tables) = true

not_empty : room_schema ≡ no_schema → ⊥
not_empty is = true≢false (ap (λ (s : Schema). has_tables s.tables) is)

pub still_room : (old it : Database) → IsOfThisVersion old → IsRoom it → Retains old.trees it.trees
    → IsStillRoom old it
still_room old it version room retains =
    record { room = room; version = same_version old it retains version; retains = retains }

-- ---- a task

-- what one step of the operator leaves of a room
record IsStepped (event : Event) (old it : Database) : Type 0 where
  still : IsStillRoom old it
  closed : HappensClosed (rows_of old) event (rows_of it)
  sound : AreSound (rows_of old) → IsEvent event (rows_of old) (rows_of it)

abbrev Steps : Task → Database → Trees → Type 0
Steps work old db =
    (event : Event) × Operates work (rows_of old).read.members event × TreesOf (IsStepped event old) db

steps : SoundIsNoFault → (old : State) → Begins old → HasTables old.now → IsOfThisVersion old.now
    → (work : Task) (db : Trees) → CommitsTask work old db → Steps work old.now db
steps law old begins tables version (task.Init owners) db commits =
    absurd (not_empty (sym begins.tables ∙ commits.0))
steps law old begins tables version task.Migrate db commits =
    let one = (commits.1 tables).1.leads.0 in
    absurd (let wrong : ⊥ = cc in wrong)
steps law old begins tables version (task.OnRoom (room.Groups pairs)) db commits =
    let it = (commits.1 tables).1 in (
      Replaced pairs,
      refl,
      (
        it.0,
        record {
          still = still_room old.now it.0 version it.1.room it.1.retains;
          closed = it.1.becomes;
          sound = was_replaced law pairs (rows_of old.now) (rows_of it.0) it.1.becomes;
        },
        it.2,
      ),
    )
steps law old begins tables version (task.OnRoom (room.Change joins leaves)) db commits =
    let it = (commits.1 tables).1 in (
      Replaced _,
      refl,
      (
        it.0,
        record {
          still = still_room old.now it.0 version it.1.room it.1.retains;
          closed = it.1.becomes.replaces;
          sound = was_replaced law _ (rows_of old.now) (rows_of it.0) it.1.becomes.replaces;
        },
        it.2,
      ),
    )
steps law old begins tables version (task.OnRoom (room.Reset path which sent)) db commits =
    let reply = (commits.1 tables).0 in
    let it = (commits.1 tables).1 in (
      WasReset path which sent reply,
      (reply, refl),
      (
        it.0,
        record {
          still = still_room old.now it.0 version it.1.room it.1.retains;
          closed = it.1.becomes.closed;
          sound = was_reset path which sent (rows_of old.now) (rows_of it.0) reply it.1.becomes;
        },
        it.2,
      ),
    )
steps law old begins tables version (task.OnRoom room.GroupsOut) db commits = absurd commits
steps law old begins tables version (task.OnRoom room.Audit) db commits = absurd commits
steps law old begins tables version (task.OnRoom room.Dump) db commits = absurd commits
steps law old begins tables version (task.OnRoom (room.Get path)) db commits = absurd commits
steps law old begins tables version (task.OnRoom (room.Review path user all)) db commits =
    absurd commits
steps law old begins tables version (task.OnRoom room.Verify) db commits = absurd commits

-- ---- where nothing was committed

-- what is left is what was found
as_found : (old : State) → Begins old → (db : Trees) → old.may_leave db → db ≡ old.now.trees
as_found old begins db left = (begins.lasts begins.is_open).1.only db left

still_there : (old : State) → Begins old → HasTables old.now → IsOfThisVersion old.now
    → IsStillRoom old.now old.now
still_there old begins tables version =
    still_room old.now old.now version (room_of tables (begins.lasts begins.is_open).0)
    (retains_same old.now old.now refl)

-- ---- on any rows

abbrev pub LeavesClosed : Database → State → Trees → Work → Type 0
LeavesClosed found new db work = (it : Database) × IsStillRoom found it × (db ≡ it.trees)
    × Closes work new (rows_of found) (rows_of it)

module _ (law : SoundIsNoFault) (old new : State) (begins : Begins old) (clean : HasCleanDisk new)
    (tables : HasTables old.now) (version : IsOfThisVersion old.now) (db : Trees)
    (left : new.may_leave db) where
  closed_by : (visits : List Visit) → Serves old visits new
      → LeavesClosed old.now new db (Served visits)
  closed_by visits serves = (it.0, it.1, it.2, on (cases_Bool new.is_open))
    where
      it : TreesOf (IsStillRoom old.now) db
      it = (serves.stays clean begins.is_open tables).left db left

      on : IsTrue new.is_open ⊎ IsShut new
          → Closes (Served visits) new (rows_of old.now) (rows_of it.0)
      on (inr shut) = inr shut
      on (inl is_open) =
          let seen = (serves.stays clean begins.is_open tables).seen is_open in
          let trees = (serves.lasts is_open).1.only db left in
          let same = same_room new.now it.0 seen.0.schema it.1.room (sym trees ∙ it.2) in
          let run = serves.closed clean (rows_of old.now) (λ is. (tables, refl)) in
          let rows = (run.2 is_open).1 in
          inl (subst (λ (rs : Rows). ClosedRun (rows_of old.now) (requests_of visits) rs)
          (sym rows ∙ ap rows_of same) run.1)

  -- over a connection that is open at its end, what is left is what was answered
  task_closed : Lasts new → (work : Task) (outcome : Outcome) → IsSettled work outcome old new
      → old.may_leave db ⊎ CommitsTask work old db
      → LeavesClosed old.now new db (Did work outcome)
  task_closed lasts work outcome (inl done) commits =
      let seen = done.seen tables in
      let held = lasts done.is_open in (
        new.now,
        still_room old.now new.now version (room_of seen.0 held.0) seen.1,
        held.1.only db left,
        inr (done.event, done.operates, seen.2),
      )
  task_closed lasts work outcome (inr none) (inl was) = (
    old.now,
    still_there old begins tables version,
    as_found old begins db was,
    inl (refl, none),
  )
  task_closed lasts work outcome (inr none) (inr commit) =
      let it = steps law old begins tables version work db commit in
      (it.2.0, it.2.1.still, it.2.2, inr (it.0, it.1, it.2.1.closed))

  down_closed : LeavesAsBefore old new → LeavesClosed old.now new db TurnedDown
  down_closed as_before = (
    old.now,
    still_there old begins tables version,
    as_found old begins db (as_before clean db left),
    refl,
  )

-- ---- in a sound room

abbrev pub LeavesWhole : Content → State → Trees → Work → Type 0
LeavesWhole found new db work = (now : List Event) × (mid : Content) × Brings work new found now
    × Run found now mid × HoldsRoom mid db

module _ (law : SoundIsNoFault) (meet : RunsMeet) (old new : State) (begins : Begins old)
    (clean : HasCleanDisk new) (found : Content) (is : IsRoomOf found old.now) (db : Trees)
    (left : new.may_leave db) where
  unchanged : old.may_leave db → HoldsRoom found db
  unchanged was = (old.now, is, as_found old begins db was)

  whole_by : (visits : List Visit) → Serves old visits new
      → LeavesWhole found new db (Served visits)
  whole_by visits serves =
      let it = serves.leaves clean (sound found old is) begins.is_open found (keeps found old is) in
      on it.0 it.1 it.2.0 it.2.1 (it.2.2 db left)
    where
      on : (next : Content) → Run found (requests_of visits) next → (more : Option Asking)
          → IfSome more (Has (unanswered_of visits))
          → HoldsRoom next db ⊎ (IsShut new × (asking : Asking) × (more ≡ Some asking)
          × HoldsRoomAfter next db asking) → LeavesWhole found new db (Served visits)
      on next run more has (inl holds) = (requests_of visits, next, inl refl, run, holds)
      on next run more has (inr (shut, asking, some, (reply, then, happens, holds))) = (
        requests_of visits ++ asking reply ∷ [],
        then,
        inr (
          shut,
          asking,
          subst (λ (m : Option Asking). IfSome m (Has (unanswered_of visits))) some has,
          reply,
          refl,
        ),
        meet found next then (requests_of visits) (asking reply ∷ []) run
            (then, happens, refl),
        holds,
      )

  stepped : (work : Task) (outcome : Outcome) → Steps work old.now db
      → LeavesWhole found new db (Did work outcome)
  stepped work outcome (event, operates, (it, step, trees)) =
      let done = step.sound is.sound in
      let next = meaning (rows_of it).read in (
        event ∷ [],
        next,
        inr (
          event,
          subst (λ (c : Content). Operates work c.members event) is.means operates,
          refl,
        ),
        (next, subst (λ (c : Content). Happens c event next) is.means done.happens, refl),
        (
          it,
          record {
            tables = step.still.room;
            sound = done.sound;
            version = step.still.version;
            means = refl;
          },
          trees,
        ),
      )

  -- over a connection that is open at its end, what is left is what was answered
  task_whole : Lasts new → (work : Task) (outcome : Outcome) → IsSettled work outcome old new
      → old.may_leave db ⊎ CommitsTask work old db
      → LeavesWhole found new db (Did work outcome)
  task_whole lasts work outcome (inl done) commits =
      let it = done.leads.run clean (sound found old is) found (keeps found old is) in (
        done.event ∷ [],
        it.0,
        inr (
          done.event,
          subst (λ (c : Content). Operates work c.members done.event) is.means done.operates,
          refl,
        ),
        it.1,
        seen_is_left new (done.leads.sound clean (sound found old is)) done.is_open lasts it.0 it.2
            db left,
      )
  task_whole lasts work outcome (inr none) (inl was) =
      ([], found, inl (refl, none), refl, unchanged was)
  task_whole lasts work outcome (inr none) (inr commit) =
      stepped work outcome
      (steps law old begins (tables_of is.tables) is.version work db commit)

  down_whole : LeavesAsBefore old new → LeavesWhole found new db TurnedDown
  down_whole as_before = ([], found, refl, refl, unchanged (as_before clean db left))

-- ---- whatever the program is

module _ {S : Type 0} (shown : Held S → State) (law : SoundIsNoFault) (meet : RunsMeet)
    (old new : Held S) (begins : Begins (shown old)) (clean : HasCleanDisk (shown new)) (db : Trees)
    (left : (shown new).may_leave db) where
  pub leaves_closed : HasTables (shown old).now → IsOfThisVersion (shown old).now → (work : Work)
      → IsDone shown work old new → LeavesClosed (shown old).now (shown new) db work
  leaves_closed tables version (Served visits) serves =
      closed_by law (shown old) (shown new) begins clean tables version db left visits serves
  leaves_closed tables version TurnedDown as_before =
      down_closed law (shown old) (shown new) begins clean tables version db left as_before
  leaves_closed tables version (Did work outcome) acted =
      task_closed law (shown old) (shown new) begins clean tables version db left acted.lasts work
      outcome (settled shown meet old new clean outcome work acted.does)
      (acted.outlasts clean db left)

  module _ (found : Content) (is : IsRoomOf found (shown old).now) where
    pub leaves_whole : (work : Work) → IsDone shown work old new
        → LeavesWhole found (shown new) db work
    leaves_whole (Served visits) serves =
        whole_by law meet (shown old) (shown new) begins clean found is db left visits serves
    leaves_whole TurnedDown as_before =
        down_whole law meet (shown old) (shown new) begins clean found is db left as_before
    leaves_whole (Did work outcome) acted =
        task_whole law meet (shown old) (shown new) begins clean found is db left acted.lasts work
        outcome (settled shown meet old new clean outcome work acted.does)
        (acted.outlasts clean db left)
