-- The task of a job and its input, or the first reason to refuse it (own).
use Rattle.std.specs.Prelude.{ℕ, Bool, true, false, List, [], ◌∷◌, ◌++◌, Option, Some, None, Result}
use Rattle.std.specs.Prelude.{Ok, Err, codes, if◌then◌else◌, is_some, length, map, nat_lt}
use Rattle.std.specs.Prelude.{option_map}
use Rattle.std.specs.Borrow.{Bor}
use Rattle.room_ace.specs.Faults.{line_fault_text}
use Rattle.room_entry.specs.Faults.{text_fault_text}
use Rattle.room_ace.specs.Lists.{sent_of}
use Rattle.room_ace.specs.Sent.{Sent}
use Rattle.room_entry.specs.Gives.{told}
use Rattle.room_entry.specs.Names.{name_of}
use Rattle.room_entry.specs.declared.object.Which.{Which}
use Rattle.room_import.specs.Faults.{csv_fault_text, csv_why_text}
use Rattle.room_import.specs.declared.fault.CsvWhy.{CsvWhy}
use Rattle.room_import.specs.declared.fault.CsvWhy.TheVariants.{NotTwoFields, BadName}
use Rattle.room_import.specs.Groups.{groups_in}
use Rattle.room_rows.specs.Faults.{path_fault_text}
use Rattle.room_rows.specs.Paths.{path_of}
use Rattle.cli_words.specs.declared.judging.Task.{Task}
use Rattle.cli_words.specs.declared.judging.Task.TheVariants as task
use Rattle.cli_words.specs.declared.judging.RoomTask.TheVariants as room
use Rattle.cli_words.specs.declared.refusal.TaskRefusal.{TaskRefusal}
use Rattle.cli_words.specs.declared.refusal.TaskRefusal.TheVariants as refusal
use Rattle.cli_words.specs.declared.command.Job.{Job}
use Rattle.cli_words.specs.declared.command.Job.TheVariants as job

-- the texts behind references
abbrev pub texts : List (Bor (List ℕ)) → List (List ℕ)
texts = map (λ text. text.now)

-- the line that is printed of a refusal
abbrev pub refusal_text : TaskRefusal → List ℕ
refusal_text (refusal.Name why) = codes "refused: " ++ text_fault_text why
refusal_text (refusal.Path why) = codes "refused: " ++ path_fault_text why
refusal_text refusal.TooLong = codes "refused: input too long"
refusal_text (refusal.Line fault) = codes "refused: " ++ line_fault_text fault
refusal_text (refusal.Row fault) = codes "refused: " ++ csv_fault_text fault
refusal_text (refusal.Pair why) = codes "refused: " ++ csv_why_text why
refusal_text refusal.Source = codes "refused: either CSV, or --join and --leave"

abbrev pub goes_on : {A B : Type 0} → Result A TaskRefusal → (A → Result B TaskRefusal)
    → Result B TaskRefusal
goes_on (Ok answer) next = next answer
goes_on (Err why) next = Err why

abbrev pub task_name : List ℕ → Result (List ℕ) TaskRefusal
task_name text = told refusal.Name (name_of text)

abbrev pub task_path : List ℕ → Result (List (List ℕ)) TaskRefusal
task_path text = told refusal.Path (path_of text)

-- the list in at most 2^20 bytes
abbrev pub sent_in : List ℕ → Result Sent TaskRefusal
sent_in input =
    if nat_lt 1048576 (length input) then Err refusal.TooLong
    else told refusal.Line (sent_of input)

-- the pairs in a group file of at most 2^23 bytes
abbrev pub pairs_in : List ℕ → Result (List (List ℕ × List ℕ)) TaskRefusal
pairs_in input =
    if nat_lt 8388608 (length input) then Err refusal.TooLong
    else told refusal.Row (groups_in input)

-- ---- pairs that join or leave

-- a name of a pair
abbrev pub pair_name : List ℕ → Result (List ℕ) TaskRefusal
pair_name text = told (λ _. refusal.Pair BadName) (name_of text)

abbrev pub pair_named : List ℕ → List ℕ → Result (List ℕ × List ℕ) TaskRefusal
pair_named group user =
    goes_on (pair_name group) (λ group. goes_on (pair_name user) (λ user. Ok (group, user)))

-- The pairs of words that stand for a group and a user in turn.
abbrev pub pairs_named : List (List ℕ) → Result (List (List ℕ × List ℕ)) TaskRefusal
pairs_named [] = Ok []
pairs_named (group ∷ []) = Err (refusal.Pair NotTwoFields)
pairs_named (group ∷ user ∷ words) =
    goes_on (pair_named group user) (λ pair. goes_on (pairs_named words) (λ pairs. Ok (pair ∷ pairs)))

abbrev pub change_of : List (List ℕ) → List (List ℕ) → Result Task TaskRefusal
change_of joins leaves =
    goes_on (pairs_named joins) (λ joins. goes_on (pairs_named leaves) (λ leaves.
    Ok (task.OnRoom (room.Change joins leaves))))

-- The pairs of a group file, or some that join and leave: one of the two.
abbrev pub groups_of : Bool → List (List ℕ) → List (List ℕ) → List ℕ → Result Task TaskRefusal
groups_of true [] [] input =
    goes_on (pairs_in input) (λ pairs. Ok (task.OnRoom (room.Groups pairs)))
groups_of true joins leaves input = Err refusal.Source
groups_of false [] [] input = Err refusal.Source
groups_of false joins leaves input = change_of joins leaves

abbrev pub init_task : List ℕ → List ℕ → Result Task TaskRefusal
init_task owner group = goes_on (task_name owner) (λ owner. goes_on (task_name group) (λ group.
    Ok (task.Init (record { owner = owner; group = group }))))

abbrev pub reset_of : List ℕ → Which → List ℕ → Result Task TaskRefusal
reset_of path which input = goes_on (task_path path) (λ path. goes_on (sent_in input) (λ list.
    Ok (task.OnRoom (room.Reset path which list))))

abbrev pub get_of : List ℕ → Result Task TaskRefusal
get_of path = goes_on (task_path path) (λ path. Ok (task.OnRoom (room.Get path)))

abbrev pub review_at : List ℕ → Option (List ℕ) → Bool → Result Task TaskRefusal
review_at path user all =
    goes_on (task_path path) (λ path. Ok (task.OnRoom (room.Review path user all)))

-- a review of one user, or of all callers: the name is judged before the path
abbrev pub review_of : List ℕ → Option (List ℕ) → Bool → Result Task TaskRefusal
review_of path None all = review_at path None all
review_of path (Some name) all =
    goes_on (task_name name) (λ name. review_at path (Some name) all)

-- The task of a job.
abbrev pub task_of : Job → List ℕ → Result Task TaskRefusal
task_of (job.Init owner group) input = init_task owner.now group.now
task_of job.Migrate input = Ok task.Migrate
task_of (job.Groups csv joins leaves) input =
    groups_of (is_some csv) (texts joins.items) (texts leaves.items) input
task_of job.GroupsOut input = Ok (task.OnRoom room.GroupsOut)
task_of job.Audit input = Ok (task.OnRoom room.Audit)
task_of job.Dump input = Ok (task.OnRoom room.Dump)
task_of (job.Get path) input = get_of path.now
task_of (job.Review path user all) input =
    review_of path.now (option_map (λ (name : Bor (List ℕ)). name.now) user) all
task_of (job.Reset path which) input = reset_of path.now which input
task_of job.Verify input = Ok (task.OnRoom room.Verify)
