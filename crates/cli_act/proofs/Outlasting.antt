-- What a crash leaves of a task.
use Rattle.std.proofs.Common.{◌≡◌, IsTrue, inl, inr, subst}
use Rattle.sqlite.specs.{Effect.Database, Held.Held, State.{State, HasCleanDisk}, Tree.Trees}
use Rattle.room_rows.specs.Rows.{Rows}
use Rattle.store_tables.specs.{Shown.HasTables, Within.{LeavesOrCommits, TreesOf}}
use Rattle.room_store.specs.Ran.{CommitsAnswer, IsAnswered}
use Rattle.cli_act.specs.{Acting.{CommitsTask, CommitsWork}, Doing.{DoesTask, Works, WorksOnRoom}}
use Rattle.cli_answer.specs.declared.outcome.Outcome.{Outcome}
use Rattle.cli_words.specs.declared.judging.{RoomTask.RoomTask, Task.Task}
use Rattle.cli_words.specs.declared.judging.RoomTask.TheVariants as room
use Rattle.cli_words.specs.declared.judging.Task.TheVariants as task

work_outlasts : (work : RoomTask) (old new : State) (outcome : Outcome)
    → Works work old outcome new → LeavesOrCommits old new (CommitsWork work old)
work_outlasts (room.Groups pairs) old new outcome works = works.ran.crash
work_outlasts (room.Change joins leaves) old new outcome works = works.ran.crash
work_outlasts room.GroupsOut old new outcome works =
    λ now db left. inl (works.looked.crash now db left)
work_outlasts room.Audit old new outcome works =
    λ now db left. inl (works.looked.crash now db left)
work_outlasts room.Dump old new outcome works =
    λ now db left. inl (works.looked.crash now db left)
work_outlasts (room.Get path) old new outcome works =
    λ now db left. inl (works.looked.crash now db left)
work_outlasts (room.Review path user all) old new outcome works =
    λ now db left. inl (works.looked.crash now db left)
work_outlasts (room.Reset path which sent) old new outcome works = works.ran.crash
work_outlasts room.Verify old new outcome works =
    λ now db left. inl (works.looked.crash now db left)

work_clean : (work : RoomTask) (old new : State) (outcome : Outcome) → Works work old outcome new
    → HasCleanDisk new → HasCleanDisk old
work_clean (room.Groups pairs) old new outcome works = works.ran.leaves.clean
work_clean (room.Change joins leaves) old new outcome works = works.ran.leaves.clean
work_clean room.GroupsOut old new outcome works = works.looked.leaves.clean
work_clean room.Audit old new outcome works = works.looked.leaves.clean
work_clean room.Dump old new outcome works = works.looked.leaves.clean
work_clean (room.Get path) old new outcome works = works.looked.leaves.clean
work_clean (room.Review path user all) old new outcome works = works.looked.leaves.clean
work_clean (room.Reset path which sent) old new outcome works = works.ran.leaves.clean
work_clean room.Verify old new outcome works = works.looked.leaves.clean

-- what is committed is so of the tables before they were opened too
module _ (old mid : State) (was_open : IsTrue mid.is_open → IsTrue old.is_open)
    (same : IsTrue mid.is_open → mid.now ≡ old.now) (db : Trees) where
  answered : {X : Type 0} (Becomes : Rows → X → Rows → Type 0) → CommitsAnswer Becomes mid db
      → CommitsAnswer Becomes old db
  answered {X} Becomes commits = (
    was_open commits.0,
    subst (λ (d : Database). HasTables d → (answer : X) × TreesOf (IsAnswered Becomes d answer) db)
        (same commits.0) commits.1,
  )

  committed : (work : RoomTask) → CommitsWork work mid db → CommitsWork work old db
  committed (room.Groups pairs) commits = answered _ commits
  committed (room.Change joins leaves) commits = answered _ commits
  committed room.GroupsOut commits = commits
  committed room.Audit commits = commits
  committed room.Dump commits = commits
  committed (room.Get path) commits = commits
  committed (room.Review path user all) commits = commits
  committed (room.Reset path which sent) commits = answered _ commits
  committed room.Verify commits = commits

module _ {S : Type 0} (shown : Held S → State) where
  room_outlasts : (work : RoomTask) (old new : Held S) (outcome : Outcome)
      → WorksOnRoom shown work old outcome new
      → LeavesOrCommits (shown old) (shown new) (CommitsWork work (shown old))
  room_outlasts work old new outcome (inl opened) now db left =
      let mid = shown opened.mid in
      let adopts = opened.opens.adopts in
      let now' = work_clean work mid (shown new) outcome opened.works now in
      elim (work_outlasts work mid (shown new) outcome opened.works now db left) [
        | inl was ↦ inl (adopts.crash now' db was)
        | inr commits ↦ inr (committed (shown old) mid (adopts.was_open now')
            (λ is_open. (adopts.kept now' is_open).0) db work commits)
      ]
  room_outlasts work old new outcome (inr not) now db left =
      inl (not.opens.adopts.crash now db left)

  pub does_outlast : (work : Task) (old new : Held S) (outcome : Outcome)
      → DoesTask shown work old outcome new
      → LeavesOrCommits (shown old) (shown new) (CommitsTask work (shown old))
  does_outlast (task.Init owners) old new outcome does = does.creates.founds.crash
  does_outlast task.Migrate old new outcome does = does.migrates.crash
  does_outlast (task.OnRoom work) old new outcome does = room_outlasts work old new outcome does
