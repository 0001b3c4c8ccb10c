-- What a line of a question says, with the lines below it that belong to it (own).
use Rattle.std.specs.Prelude.{ℕ, ◌+◌, ◌||◌, not, List, [], ◌∷◌, length, filter, drop, codes}
use Rattle.std.specs.Prelude.{Option, Some, None, Result, Ok, Err, if◌then◌else◌, nat_eq}
use Rattle.std.specs.List.{enumerate_from, starts_with}
use Rattle.std.specs.Option.{option_map_or}
use Rattle.std.specs.Cmp.Lexicographic.{pointwise}
use Rattle.room_entry.specs.Bytes.{comma}
use Rattle.room_entry.specs.Pieces.{pieces, same_text}
use Rattle.room_entry.specs.declared.object.ObjKind.{ObjKind}
use Rattle.room_entry.specs.declared.object.ObjKind.TheVariants.{Folder, Document}
use Rattle.room_ace.specs.Sent.{Sent}
use Rattle.room_ace.specs.Lists.{is_blank, is_comment, sent_of_lines}
use Rattle.room_ace.specs.declared.fault.LineFault.{LineFault}
use Rattle.room_question.specs.Words.{and_then, cut_word, fault_at, group_at, name_at, names_at}
use Rattle.room_question.specs.Words.{owner_at, path_at, user_at, word_at, word_of}
use Rattle.room_question.specs.declared.fault.QuestionFault.{QuestionFault}
use Rattle.room_question.specs.declared.fault.QuestionWhy.TheVariants.{NoSuchLine, List as OfList}
use Rattle.room_question.specs.declared.question.Change.TheVariants.{Sets, Moves, Comes}
use Rattle.room_question.specs.declared.question.Listed.{Listed}
use Rattle.room_question.specs.declared.question.Listed.TheVariants.{Follows, Unread, Text}
use Rattle.room_question.specs.declared.question.Look.{Look}
use Rattle.room_question.specs.declared.question.Moving.{Moving}
use Rattle.room_question.specs.declared.question.Object.{Object}
use Rattle.room_question.specs.declared.question.Setting.{Setting}
use Rattle.room_question.specs.declared.question.Supposed.{Supposed}
use Rattle.room_question.specs.declared.saying.Said.{Said}
use Rattle.room_question.specs.declared.saying.Said.TheVariants.{Pair, Caller, Stands, Changes}
use Rattle.room_question.specs.declared.saying.Said.TheVariants.{Looks, Lists}
use Rattle.room_question.specs.declared.words.Word.{Word}
use Rattle.room_question.specs.declared.words.Word.TheVariants as word

-- ---- the lines below a line of this number

-- nothing stands below
abbrev pub nothing_at : ℕ → List (List ℕ) → Result (Unit {0}) QuestionFault
nothing_at number [] = Ok tt
nothing_at number (line ∷ lines) = fault_at (number + 1) NoSuchLine

-- the faults of a list are counted on from the line above it
abbrev pub in_list : ℕ → Result Sent LineFault → Result Sent QuestionFault
in_list number (Ok sent) = Ok sent
in_list number (Err fault) = fault_at (number + fault.line) (OfList fault.why)

-- the text of a list
abbrev pub list_at : ℕ → List (List ℕ) → Result Sent QuestionFault
list_at number below =
    in_list number
    (sent_of_lines (length below)
    (filter (λ line. not (is_blank line.1 || is_comment line.1)) (enumerate_from 1 below)))

-- a word in place of a list, or its text
abbrev pub listed_at : ℕ → List (List ℕ) → Result Listed QuestionFault
listed_at number below =
    if pointwise same_text below (codes "follows" ∷ []) then Ok Follows else
    if pointwise same_text below (codes "unread" ∷ []) then Ok Unread else
    and_then (list_at number below) (λ list. Ok (Text list))

-- what stands behind `to ` in the only line
abbrev pub words_to : List (List ℕ) → Option (List ℕ)
words_to (line ∷ []) = if starts_with nat_eq line (codes "to ") then Some (drop 3 line) else None
words_to _ = None

abbrev pub to_at : ℕ → List (List ℕ) → Result (List (List ℕ)) QuestionFault
to_at number below =
    option_map_or (path_at (number + 1)) (words_to below) (fault_at (number + 1) NoSuchLine)

-- ---- what stands behind the word of a line

-- `member GROUP USER`
abbrev pub member_at : ℕ → List ℕ → List (List ℕ) → Result (List ℕ × List ℕ) QuestionFault
member_at number words below =
    and_then (word_at number words) (λ cut.
    and_then (nothing_at number below) (λ none.
    and_then (name_at number cut.0) (λ group.
    and_then (name_at number cut.1) (λ user. Ok (group, user)))))

-- `as LABEL USER GROUP,GROUP`
abbrev pub supposed_at : ℕ → List ℕ → List (List ℕ) → Result Supposed QuestionFault
supposed_at number words below =
    and_then (word_at number words) (λ first.
    and_then (word_at number first.1) (λ second.
    and_then (nothing_at number below) (λ none.
    and_then (name_at number first.0) (λ label.
    and_then (user_at number second.0) (λ user.
    and_then (names_at number (pieces comma second.1)) (λ groups.
    Ok (record { label = label; user = user; groups = groups })))))))

-- `folder OWNER GROUP PATH`, and a list
abbrev pub object_at : ℕ → ObjKind → List ℕ → List (List ℕ) → Result Object QuestionFault
object_at number kind words below =
    and_then (word_at number words) (λ first.
    and_then (word_at number first.1) (λ second.
    and_then (owner_at number first.0) (λ owner.
    and_then (group_at number second.0) (λ group.
    and_then (path_at number second.1) (λ path.
    and_then (listed_at number below) (λ list.
    Ok (record {
      line = number;
      kind = kind;
      owner = owner;
      group = group;
      path = path;
      list = list;
    })))))))

-- `set PATH`, and a list
abbrev pub setting_at : ℕ → List ℕ → List (List ℕ) → Result Setting QuestionFault
setting_at number words below =
    and_then (path_at number words) (λ path.
    and_then (list_at number below) (λ list.
    Ok (record { line = number; path = path; list = list })))

-- `move PATH`, and `to PATH`
abbrev pub moving_at : ℕ → List ℕ → List (List ℕ) → Result Moving QuestionFault
moving_at number words below =
    and_then (path_at number words) (λ path.
    and_then (to_at number below) (λ to.
    Ok (record { line = number; path = path; to = to })))

-- `look PATH`
abbrev pub look_at : ℕ → List ℕ → List (List ℕ) → Result Look QuestionFault
look_at number words below =
    and_then (nothing_at number below) (λ none.
    and_then (path_at number words) (λ path. Ok (record { line = number; path = path })))

-- ---- the line

abbrev pub said_by : ℕ → Word → List ℕ → List (List ℕ) → Result Said QuestionFault
said_by number word.Member words below =
    and_then (member_at number words below) (λ pair. Ok (Pair pair.0 pair.1))
said_by number word.As words below =
    and_then (supposed_at number words below) (λ supposed. Ok (Caller supposed))
said_by number word.Folder words below =
    and_then (object_at number Folder words below) (λ object. Ok (Stands object))
said_by number word.Document words below =
    and_then (object_at number Document words below) (λ object. Ok (Stands object))
said_by number word.FolderComes words below =
    and_then (object_at number Folder words below) (λ object. Ok (Changes (Comes object)))
said_by number word.DocumentComes words below =
    and_then (object_at number Document words below) (λ object. Ok (Changes (Comes object)))
said_by number word.Set words below =
    and_then (setting_at number words below) (λ setting. Ok (Changes (Sets setting)))
said_by number word.Move words below =
    and_then (moving_at number words below) (λ moving. Ok (Changes (Moves moving)))
said_by number word.Look words below =
    and_then (look_at number words below) (λ look. Ok (Looks look))

-- a line of one word
abbrev pub said_alone : ℕ → List ℕ → List (List ℕ) → Result Said QuestionFault
said_alone number line below =
    if same_text line (codes "lists") then and_then (nothing_at number below) (λ none. Ok Lists)
    else fault_at number NoSuchLine

abbrev pub said_with : ℕ → Option Word → List ℕ → List (List ℕ) → Result Said QuestionFault
said_with number None words below = fault_at number NoSuchLine
said_with number (Some word) words below = said_by number word words below

-- What the line of this number says with those below it, or the first fault.
abbrev pub said_of : ℕ → List ℕ → List (List ℕ) → Result Said QuestionFault
said_of number line below =
    option_map_or (λ cut. said_with number (word_of cut.0) cut.1 below) (cut_word line)
    (said_alone number line below)
