-- The judging of one list from bytes: four header lines, then the text of a list (own).
use Rattle.std.specs.Prelude.{ℕ, ◌+◌, ◌==◌, ◌&&◌, not, ◌||◌, List, [], ◌∷◌, filter, length, drop}
use Rattle.std.specs.Prelude.{Option, Some, None, Result, Ok, Err, if◌then◌else◌, nat_lt, nat_eq}
use Rattle.std.specs.Prelude.{codes}
use Rattle.std.specs.List.{list_all, enumerate_from, starts_with}
use Rattle.std.specs.Option.{option_map_or, ok_or}
use Rattle.room_entry.specs.Bytes.{colon, comma, space}
use Rattle.room_entry.specs.Pieces.{pieces}
use Rattle.room_entry.specs.Names.{is_name}
use Rattle.room_entry.specs.Letters.{mask_of}
use Rattle.room_ace.specs.Sent.{Sent}
use Rattle.room_ace.specs.Lists.{lines_of, is_blank, is_comment, sent_of_lines}
use Rattle.room_entry.specs.Valid.{first_bad_entry}
use Rattle.room_entry.specs.declared.limits.TheConstants.{MOST_BYTES}
use Rattle.room_entry.specs.declared.object.Which.TheVariants.{Dacl}
use Rattle.room_entry.specs.declared.object.ObjKind.TheVariants.{Folder}
use Rattle.room_entry.specs.declared.parties.Owners.{Owners}
use Rattle.room_ace.specs.declared.fault.LineFault.{LineFault}
use Rattle.room_entry.specs.declared.fault.TextFault.TheVariants.{BadMask}
use Rattle.room_ace.specs.declared.fault.Why.TheVariants.{Entry}
use Rattle.room_eval.specs.Verdict.{verdict}
use Rattle.cli_check.specs.declared.fault.InputWhy.{InputWhy}
use Rattle.cli_check.specs.declared.fault.InputWhy.TheVariants.{BadHeader, BadName, Text}
use Rattle.cli_check.specs.declared.fault.InputFault.{InputFault}
use Rattle.cli_check.specs.declared.question.Question.{Question}
use Rattle.cli_check.specs.declared.judging.Judged.{Judged}
use Rattle.cli_check.specs.declared.judging.Judged.TheVariants.{Says, TooLong, AtLine, AtEntry}

-- ---- the values of the headers

abbrev pub without_spaces : List ℕ → List ℕ
without_spaces [] = []
without_spaces (byte ∷ bytes) = if byte == space then without_spaces bytes else byte ∷ bytes

-- what stands after the word that the line begins with
abbrev pub value_of : List ℕ → List ℕ → Result (List ℕ) InputWhy
value_of word line =
    if starts_with nat_eq line word then Ok (without_spaces (drop (length word) line))
    else Err BadHeader

abbrev pub checked_name : List ℕ → Result (List ℕ) InputWhy
checked_name value = if is_name value then Ok value else Err BadName

-- without a value the caller is anonymous
abbrev pub user_of : List ℕ → Result (Option (List ℕ)) InputWhy
user_of [] = Ok None
user_of (byte ∷ bytes) = if is_name (byte ∷ bytes) then Ok (Some (byte ∷ bytes)) else Err BadName

-- each of the parts is a name
abbrev pub checked_names : List (List ℕ) → Result (List (List ℕ)) InputWhy
checked_names parts = if list_all is_name parts then Ok parts else Err BadName

-- an anonymous caller has no groups
abbrev pub checked_groups : Option (List ℕ) → List ℕ → Result (List (List ℕ)) InputWhy
checked_groups user [] = Ok []
checked_groups None (byte ∷ bytes) = Err BadName
checked_groups (Some user) (byte ∷ bytes) = checked_names (pieces comma (byte ∷ bytes))

abbrev pub owners_of_parts : List (List ℕ) → Result Owners InputWhy
owners_of_parts (owner ∷ group ∷ []) =
    if is_name owner && is_name group then Ok (record { owner = owner; group = group })
    else Err BadName
owners_of_parts _ = Err BadName

abbrev pub owners_of : List ℕ → Result Owners InputWhy
owners_of value = owners_of_parts (pieces colon value)

abbrev pub checked_mask : List ℕ → Result (List ℕ) InputWhy
checked_mask value = ok_or (mask_of value) (Text (Entry BadMask))

-- ---- lines in order, up to the first fault

abbrev pub and_then : {A B F : Type 0} → Result A F → (A → Result B F) → Result B F
and_then (Err fault) rest = Err fault
and_then (Ok value) rest = rest value

abbrev pub at_line : {A : Type 0} → ℕ → Result A InputWhy → Result A InputFault
at_line number (Err why) = Err (record { line = number; why = why })
at_line number (Ok value) = Ok value

-- the value of the header that the first line is, and the lines below
abbrev pub cut_header : ℕ → List ℕ → List (List ℕ) → Result (List ℕ × List (List ℕ)) InputFault
cut_header number word [] = at_line number (Err BadHeader)
cut_header number word (line ∷ below) =
    and_then (at_line number (value_of word line)) (λ value. Ok (value, below))

-- what the value of that header says, and the lines below
abbrev pub header : {A : Type 0} → ℕ → List ℕ → (List ℕ → Result A InputWhy)
    → List (List ℕ) → Result (A × List (List ℕ)) InputFault
header number word read lines =
    and_then (cut_header number word lines) (λ cut.
    and_then (at_line number (read cut.0)) (λ said. Ok (said, cut.1)))

abbrev pub caller_line : List (List ℕ) → Result (Option (List ℕ) × List (List ℕ)) InputFault
caller_line lines = header 1 (codes "caller:") user_of lines

abbrev pub groups_line : Option (List ℕ) → List (List ℕ)
    → Result (List (List ℕ) × List (List ℕ)) InputFault
groups_line user lines = header 2 (codes "groups:") (checked_groups user) lines

abbrev pub owners_line : List (List ℕ) → Result (Owners × List (List ℕ)) InputFault
owners_line lines = header 3 (codes "owners:") owners_of lines

abbrev pub ask_line : List (List ℕ) → Result (List ℕ × List (List ℕ)) InputFault
ask_line lines = header 4 (codes "ask:") checked_mask lines

-- ---- the list

abbrev pub in_list : Result Sent LineFault → Result Sent InputFault
in_list (Err fault) = Err (record { line = fault.line; why = Text fault.why })
in_list (Ok sent) = Ok sent

-- the list begins below the headers, and its lines are counted with them
abbrev pub list_below : List (List ℕ) → Result Sent InputFault
list_below lines =
    in_list (sent_of_lines (4 + length lines)
    (filter (λ line. not (is_blank line.1 || is_comment line.1)) (enumerate_from 5 lines)))

-- what the lines ask, or the first fault of a line
abbrev pub question_of : List (List ℕ) → Result Question InputFault
question_of lines =
    and_then (caller_line lines) (λ caller.
    and_then (groups_line caller.0 caller.1) (λ groups.
    and_then (owners_line groups.1) (λ owners.
    and_then (ask_line owners.1) (λ asked.
    and_then (list_below asked.1) (λ list.
    Ok (record {
      caller = record { user = caller.0; groups = groups.0 };
      owners = owners.0;
      asked = asked.0;
      list = list;
    }))))))

-- ---- the answer

-- The first of the entries that may not stand in the dacl of a folder, or what the list says.
abbrev pub answer_of : Question → Judged
answer_of question =
    option_map_or AtEntry (first_bad_entry 1 Dacl Folder question.list.entries)
    (Says question.list
    (verdict question.list.entries question.caller question.owners question.asked))

abbrev pub judged_question : Result Question InputFault → Judged
judged_question (Err fault) = AtLine fault
judged_question (Ok question) = answer_of question

-- What is judged of the bytes: the first fault of their length, their lines and their entries, or
-- what the list says.
abbrev pub judged : List ℕ → Judged
judged bytes =
    if nat_lt MOST_BYTES (length bytes) then TooLong
    else judged_question (question_of (lines_of bytes))
