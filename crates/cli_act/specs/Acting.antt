-- A task that is done, and its outcome printed.
use Rattle.std.specs.Prelude.{ℕ, List, Option}
use Rattle.sqlite.specs.Held.{Held}
use Rattle.sqlite.specs.State.{State}
use Rattle.sqlite.specs.Tree.{Trees}
use Rattle.room_judge.specs.Judged.{Resets}
use Rattle.store_admin.specs.Changing.{ChangesMembers}
use Rattle.store_admin.specs.Operating.{ReplacesMembers}
use Rattle.store_schema.specs.Making.{CommitsRoom}
use Rattle.store_schema.specs.Migrating.{CommitsMigration}
use Rattle.room_store.specs.Ran.{CommitsAnswer}
use Rattle.cli_act.specs.Doing.{DoesTask}
use Rattle.cli_answer.specs.Telling.{PrintsOutcome}
use Rattle.cli_answer.specs.declared.outcome.Outcome.{Outcome}
use Rattle.cli_words.specs.declared.judging.Task.{Task}
use Rattle.cli_words.specs.declared.judging.Task.TheVariants as task
use Rattle.cli_words.specs.declared.judging.RoomTask.{RoomTask}
use Rattle.cli_words.specs.declared.judging.RoomTask.TheVariants as room

-- The outcome of the task is what is printed.
pub record Acts {S : Type 0} (shown : Held S → State) (work : Task) (old new : Held S)
    (out out' err err' : Option (List ℕ)) (status : ℕ) : Type 0 where
  pub outcome : Outcome
  pub does : DoesTask shown work old outcome new
  pub tells : PrintsOutcome outcome out out' err err' status

-- What a task on a room commits, if it gets that far: all that an answer stands for. One that only
-- asks commits nothing.
abbrev pub CommitsWork : RoomTask → State → Trees → Type 0
CommitsWork (room.Groups pairs) old db = CommitsAnswer (ReplacesMembers pairs) old db
CommitsWork (room.Change joins leaves) old db =
    CommitsAnswer (ChangesMembers joins leaves) old db
CommitsWork room.GroupsOut old db = ⊥
CommitsWork room.Audit old db = ⊥
CommitsWork room.Dump old db = ⊥
CommitsWork (room.Get path) old db = ⊥
CommitsWork (room.Review path user all) old db = ⊥
CommitsWork (room.Reset path which sent) old db = CommitsAnswer (Resets path which sent) old db
CommitsWork room.Verify old db = ⊥

-- What any task commits, if it gets that far: of an empty database the new room, and of a room of
-- schema 1 the room upgraded.
abbrev pub CommitsTask : Task → State → Trees → Type 0
CommitsTask (task.Init owners) old db = CommitsRoom owners old.now db
CommitsTask task.Migrate old db = CommitsMigration old.now db
CommitsTask (task.OnRoom work) old db = CommitsWork work old db
