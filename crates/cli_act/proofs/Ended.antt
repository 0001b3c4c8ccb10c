-- After a task no transaction is open.
use Rattle.std.proofs.Common.{◌≡◌, inl, inr, false}
use Rattle.sqlite.specs.{Held.Held, State.State}
use Rattle.cli_answer.specs.declared.outcome.Outcome.{Outcome}
use Rattle.cli_act.specs.Doing.{DoesTask, Works, WorksOnRoom}
use Rattle.cli_words.specs.declared.judging.{RoomTask.RoomTask, Task.Task}
use Rattle.cli_words.specs.declared.judging.RoomTask.TheVariants as room
use Rattle.cli_words.specs.declared.judging.Task.TheVariants as task

work_ended : (work : RoomTask) (old new : State) (outcome : Outcome) → Works work old outcome new
    → old.in_transaction ≡ false → new.in_transaction ≡ false
work_ended (room.Groups pairs) old new outcome works ended = works.ran.leaves.ended ended
work_ended (room.Change joins leaves) old new outcome works ended = works.ran.leaves.ended ended
work_ended room.GroupsOut old new outcome works ended = works.looked.leaves.ended ended
work_ended room.Audit old new outcome works ended = works.looked.leaves.ended ended
work_ended room.Dump old new outcome works ended = works.looked.leaves.ended ended
work_ended (room.Get path) old new outcome works ended = works.looked.leaves.ended ended
work_ended (room.Review path user all) old new outcome works ended = works.looked.leaves.ended ended
work_ended (room.Reset path which sent) old new outcome works ended = works.ran.leaves.ended ended
work_ended room.Verify old new outcome works ended = works.looked.leaves.ended ended

module _ {S : Type 0} (shown : Held S → State) where
  room_ended : (work : RoomTask) (old new : Held S) (outcome : Outcome)
      → WorksOnRoom shown work old outcome new → (shown new).in_transaction ≡ false
  room_ended work old new outcome (inl opened) =
      work_ended work (shown opened.mid) (shown new) outcome opened.works opened.opens.adopts.ended
  room_ended work old new outcome (inr not) = not.opens.adopts.ended

  pub does_ended : (work : Task) (old new : Held S) (outcome : Outcome)
      → DoesTask shown work old outcome new → (shown new).in_transaction ≡ false
  does_ended (task.Init owners) old new outcome does = does.creates.founds.ended
  does_ended task.Migrate old new outcome does = does.migrates.ended
  does_ended (task.OnRoom work) old new outcome does = room_ended work old new outcome does
