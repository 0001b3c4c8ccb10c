-- The words of a line, and faults of lines (own).
use Rattle.std.specs.Prelude.{◌≡◌, ℕ, ◌+◌, ◌==◌, List, take, drop, codes}
use Rattle.std.specs.Prelude.{Option, Some, None, Result, Ok, Err, if◌then◌else◌}
use Rattle.std.specs.List.{list_all, position}
use Rattle.std.specs.Option.{option_map, option_map_or}
use Rattle.room_entry.specs.Bytes.{space}
use Rattle.room_entry.specs.Names.{is_name}
use Rattle.room_entry.specs.Pieces.{same_text}
use Rattle.room_entry.specs.declared.failure.Failure.{Failure}
use Rattle.room_entry.specs.declared.failure.Failure.TheVariants.{Fault}
use Rattle.room_rows.specs.Paths.{path_of}
use Rattle.room_rows.specs.declared.fault.PathFault.{PathFault}
use Rattle.room_question.specs.declared.fault.QuestionFault.{QuestionFault}
use Rattle.room_question.specs.declared.fault.QuestionWhy.{QuestionWhy}
use Rattle.room_question.specs.declared.fault.QuestionWhy.TheVariants.{NoSuchLine, BadName, Path}
use Rattle.room_question.specs.declared.question.Owner.{Owner}
use Rattle.room_question.specs.declared.question.Owner.TheVariants.{User, Unread, Each}
use Rattle.room_question.specs.declared.words.Word.{Word}
use Rattle.room_question.specs.declared.words.Word.TheVariants.{Member, As, Folder, Document}
use Rattle.room_question.specs.declared.words.Word.TheVariants.{FolderComes, DocumentComes, Set}
use Rattle.room_question.specs.declared.words.Word.TheVariants.{Move, Look}

-- ---- faults

abbrev pub fault_at : {A : Type 0} → ℕ → QuestionWhy → Result A QuestionFault
fault_at line why = Err (record { line = line; why = why })

abbrev pub and_then : {A B : Type 0} → Result A QuestionFault → (A → Result B QuestionFault)
    → Result B QuestionFault
and_then (Err fault) rest = Err fault
and_then (Ok value) rest = rest value

-- ---- words

-- what stands before the first space, and what stands behind it
abbrev pub cut_word : List ℕ → Option (List ℕ × List ℕ)
cut_word bytes =
    option_map (λ place. (take place bytes, drop (place + 1) bytes))
    (position (λ byte. byte == space) bytes)

abbrev pub word_at : ℕ → List ℕ → Result (List ℕ × List ℕ) QuestionFault
word_at line bytes = option_map_or Ok (cut_word bytes) (fault_at line NoSuchLine)

-- The call answers the words that are defined. It takes no memory.
abbrev pub GivesWords : {W : Type 0} → (W → List ℕ × List ℕ) → Result W (Failure QuestionFault)
    → Result (List ℕ × List ℕ) QuestionFault → Type 0
GivesWords view (Ok words) defined = defined ≡ Ok (view words)
GivesWords view (Err failure) defined =
    (fault : QuestionFault) × (failure ≡ Fault fault) × (defined ≡ Err fault)

-- the words that lines begin with
abbrev pub word_of : List ℕ → Option Word
word_of text =
    if same_text text (codes "member") then Some Member else
    if same_text text (codes "as") then Some As else
    if same_text text (codes "folder") then Some Folder else
    if same_text text (codes "document") then Some Document else
    if same_text text (codes "folder+") then Some FolderComes else
    if same_text text (codes "document+") then Some DocumentComes else
    if same_text text (codes "set") then Some Set else
    if same_text text (codes "move") then Some Move else
    if same_text text (codes "look") then Some Look else None

-- ---- names and paths

abbrev pub name_at : ℕ → List ℕ → Result (List ℕ) QuestionFault
name_at line text = if is_name text then Ok text else fault_at line BadName

-- each of the parts is a name
abbrev pub names_at : ℕ → List (List ℕ) → Result (List (List ℕ)) QuestionFault
names_at line parts = if list_all is_name parts then Ok parts else fault_at line BadName

-- `*` is a name that nothing names
abbrev pub user_at : ℕ → List ℕ → Result (Option (List ℕ)) QuestionFault
user_at line text =
    if same_text text (codes "*") then Ok None
    else and_then (name_at line text) (λ name. Ok (Some name))

-- `?` isn't known, and `=` is each caller
abbrev pub owner_at : ℕ → List ℕ → Result Owner QuestionFault
owner_at line text =
    if same_text text (codes "?") then Ok Unread else
    if same_text text (codes "=") then Ok Each else
    and_then (name_at line text) (λ name. Ok (User name))

-- `?` isn't known
abbrev pub group_at : ℕ → List ℕ → Result (Option (List ℕ)) QuestionFault
group_at line text =
    if same_text text (codes "?") then Ok None
    else and_then (name_at line text) (λ name. Ok (Some name))

abbrev pub in_path : ℕ → Result (List (List ℕ)) PathFault → Result (List (List ℕ)) QuestionFault
in_path line (Ok path) = Ok path
in_path line (Err fault) = fault_at line (Path fault)

abbrev pub path_at : ℕ → List ℕ → Result (List (List ℕ)) QuestionFault
path_at line text = in_path line (path_of text)
