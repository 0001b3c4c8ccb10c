-- The first bytes of an input that show that it is too long have the task of all of it.
use Rattle.std.proofs.Common.{ℕ, ◌≡◌, ◌+◌, List, [], ◌∷◌, length, Option, Some, None, Result, Ok}
use Rattle.std.proofs.Common.{Err, true, false}
use Rattle.std.proofs.{Common.{refl, ap, inl, arith}, lemmas.List.{length-take-le, take_all}}
use Rattle.std.{proofs.lemmas.Bool.{cond-true, lt-ltb, ltb-true, ltb-false}, specs.Prelude.take}
use Rattle.std.specs.Prelude.{nat_lt, IfSome, if◌then◌else◌}
use Rattle.room_entry.specs.{Gives.{Gives, told}, declared.failure.Failure.Failure}
use Rattle.room_entry.specs.declared.failure.Failure.TheVariants.{OutOfMemory, Fault}
use Rattle.room_ace.specs.{Lists.sent_of, Sent.Sent}
use Rattle.room_import.specs.Groups.{groups_in}
use Rattle.cli_outcome.specs.{Ending.IsOfStream, declared.fault.Fault.Fault as StreamFault}
use Rattle.cli_words.specs.Tasks.{goes_on, groups_of, pairs_in, task_path, sent_in, task_of, texts}
use Rattle.cli_words.specs.declared.{judging.Task.Task, refusal.TaskRefusal.TaskRefusal}
use Rattle.cli_words.specs.{declared.{command.Job.Job, stop.Stop.Stop}, Asked.input_of}
use Rattle.cli_words.specs.{Reads.{IsTask, ReadsTask, most_of}, Stops.stop_of_refusal}
use Rattle.cli_words.specs.declared.judging.Task.TheVariants as task
use Rattle.cli_words.specs.declared.judging.RoomTask.TheVariants as room
use Rattle.cli_words.specs.declared.refusal.TaskRefusal.TheVariants as refusal
use Rattle.cli_words.specs.declared.command.Job.TheVariants as job
use Rattle.cli_words.specs.declared.stop.Stop.TheVariants as stop

-- a test of the length, and then of the bytes
limited : {A : Type 0} (most : ℕ) (long : A) (read : List ℕ → A) (input : List ℕ)
    → (if nat_lt most (length (take (most + 1) input)) then long else read (take (most + 1) input))
    ≡ (if nat_lt most (length input) then long else read input)
limited most long read input =
    grind (arith, ltb-true, length-take-le, cond-true, lt-ltb, ltb-false, take_all)

pairs-take : (input : List ℕ) → pairs_in (take 8388609 input) ≡ pairs_in input
pairs-take input =
    limited 8388608 (Err refusal.TooLong) (λ bytes. told refusal.Row (groups_in bytes)) input

sent-take : (input : List ℕ) → sent_in (take 1048577 input) ≡ sent_in input
sent-take input =
    limited 1048576 (Err refusal.TooLong) (λ bytes. told refusal.Line (sent_of bytes)) input

groups-take : (joins leaves : List (List ℕ)) (input : List ℕ)
    → groups_of true joins leaves (take 8388609 input) ≡ groups_of true joins leaves input
groups-take [] [] input =
    ap (λ (read : Result (List (List ℕ × List ℕ)) TaskRefusal).
    goes_on read (λ pairs. Ok (task.OnRoom (room.Groups pairs)))) (pairs-take input)
groups-take [] (leave ∷ leaves) input = refl
groups-take (join ∷ joins) leaves input = refl

-- without a group file nothing is read
groups-none : (joins leaves : List (List ℕ)) (input : List ℕ)
    → groups_of false joins leaves (take 0 input) ≡ groups_of false joins leaves input
groups-none [] [] input = refl
groups-none [] (leave ∷ leaves) input = refl
groups-none (join ∷ joins) leaves input = refl

task-take : (asked : Job) (input : List ℕ)
    → task_of asked (take (most_of (input_of asked)) input) ≡ task_of asked input
task-take (job.Init owner group) input = refl
task-take (job.Groups None joins leaves) input = groups-none (texts joins.items) (texts leaves.items) input
task-take (job.Groups (Some csv) joins leaves) input =
    groups-take (texts joins.items) (texts leaves.items) input
task-take job.GroupsOut input = refl
task-take job.Audit input = refl
task-take job.Dump input = refl
task-take (job.Get path) input = refl
task-take (job.Review path user all) input = refl
task-take (job.Reset path which) input =
    ap (λ (read : Result Sent TaskRefusal).
    goes_on (task_path path.now)
    (λ path. goes_on read (λ list. Ok (task.OnRoom (room.Reset path which list)))))
    (sent-take input)
task-take job.Verify input = refl
task-take job.Migrate input = refl

-- the task of what was read
pub whole : (asked : Job) (known : Option (List ℕ)) (bytes : List ℕ) (most : ℕ)
    (result : Result Task Stop)
    → most ≡ most_of (input_of asked) → IfSome known (λ input. bytes ≡ take most input)
    → IsTask (task_of asked bytes) result → ReadsTask asked known result
whole asked None bytes most result is front told = (bytes, tt, told)
whole asked (Some input) bytes most result is front told =
    grind (arith, task-take, is, front, told)

-- nothing could be read
pub unread : (asked : Job) (known : Option (List ℕ)) (why : StreamFault) → IsOfStream why
    → ReadsTask asked known (Err (stop.Failed why))
unread asked None why is = ([], tt, is)
unread asked (Some input) why is = (input, refl, is)

-- or why there is none
pub refused : (due : Result Task TaskRefusal) (failure : Failure TaskRefusal)
    → Gives {A = Task} (Err failure) due → IsTask due (Err (stop_of_refusal failure))
refused due OutOfMemory gives = inl refl
refused due (Fault why) gives = gives
