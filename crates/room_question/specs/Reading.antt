-- What the text of a question says (own).
use Rattle.std.specs.Prelude.{ℕ, ◌+◌, ◌-◌, ◌==◌, ◌&&◌, Bool, true, false, not, List, [], ◌∷◌, ◌++◌}
use Rattle.std.specs.Prelude.{length, map, filter, take, Option, Some, None, Result, Ok}
use Rattle.std.specs.Prelude.{if◌then◌else◌, nat_lt}
use Rattle.std.specs.List.{list_any}
use Rattle.std.specs.Str.{bytes_eq}
use Rattle.room_entry.specs.declared.object.ObjKind.{ObjKind}
use Rattle.room_entry.specs.declared.object.ObjKind.TheVariants.{Folder, Document}
use Rattle.room_ace.specs.Lists.{lines_of}
use Rattle.room_rows.specs.Paths.{path_text}
use Rattle.room_question.specs.Items.{Item, items_from}
use Rattle.room_question.specs.Saying.{said_of}
use Rattle.room_question.specs.Words.{and_then, fault_at}
use Rattle.room_question.specs.declared.fault.QuestionFault.{QuestionFault}
use Rattle.room_question.specs.declared.fault.QuestionWhy.{QuestionWhy}
use Rattle.room_question.specs.declared.fault.QuestionWhy.TheVariants.{NoSuchLine, NoFolder, Exists}
use Rattle.room_question.specs.declared.fault.QuestionWhy.TheVariants.{TooMuch}
use Rattle.room_question.specs.declared.limits.TheConstants.{MOST_MEMBERS, MOST_PARTS}
use Rattle.room_question.specs.declared.limits.TheConstants.{MOST_QUESTION, MOST_SUPPOSED}
use Rattle.room_question.specs.declared.question.Object.{Object}
use Rattle.room_question.specs.declared.question.Question.{Question}
use Rattle.room_question.specs.declared.saying.Said.{Said}
use Rattle.room_question.specs.declared.saying.Said.TheVariants.{Pair, Caller, Stands, Changes}
use Rattle.room_question.specs.declared.saying.Said.TheVariants.{Looks, Lists}

abbrev pub none : {A : Type 0} → List A → Bool
none items = length items == 0

abbrev pub nothing_said : Question
nothing_said = record {
  members = [];
  supposed = [];
  objects = [];
  changes = [];
  looks = [];
  lists = false;
}

-- ---- the order: members, callers, objects, then changes or looks, then `lists`

abbrev pub nothing_asked : Question → Bool
nothing_asked said = none said.changes && none said.looks && not said.lists

abbrev pub may_follow : Question → Said → Bool
may_follow said (Pair group user) =
    none said.supposed && none said.objects && nothing_asked said
may_follow said (Caller supposed) = none said.objects && nothing_asked said
may_follow said (Stands object) = nothing_asked said
may_follow said (Changes change) = none said.looks && not said.lists
may_follow said (Looks look) = none said.changes && not said.lists
may_follow said Lists = not said.lists

-- ---- where an object may stand

abbrev pub is_folder : ObjKind → Bool
is_folder Folder = true
is_folder Document = false

abbrev pub path_texts : List Object → List (List ℕ)
path_texts objects = map (λ object. path_text object.path) objects

abbrev pub folder_texts : List Object → List (List ℕ)
folder_texts objects = path_texts (filter (λ object. is_folder object.kind) objects)

-- the path of the folder that an object stands in
abbrev pub folder_of : List (List ℕ) → List (List ℕ)
folder_of path = take (length path - 1) path

-- the root has to be a folder, and each other object stands in one that was there before it
abbrev pub has_folder : List Object → Object → Bool
has_folder before object =
    if none object.path then is_folder object.kind
    else list_any (bytes_eq (path_text (folder_of object.path))) (folder_texts before)

-- why an object can't stand behind these, if it can't
abbrev pub place_fault : List Object → Object → Option QuestionWhy
place_fault before object =
    if list_any (bytes_eq (path_text object.path)) (path_texts before) then Some Exists else
    if has_folder before object then None else Some NoFolder

-- ---- what is said with one line more

abbrev pub parts : Question → ℕ
parts said = length said.objects + length said.changes + length said.looks

-- with room for one more, what is said with it
abbrev pub within : ℕ → ℕ → ℕ → Question → Result Question QuestionFault
within line most count more = if nat_lt count most then Ok more else fault_at line TooMuch

abbrev pub unless : ℕ → Option QuestionWhy → Result Question QuestionFault
    → Result Question QuestionFault
unless line None more = more
unless line (Some why) more = fault_at line why

-- changes and looks are of objects
abbrev pub of_objects : ℕ → Question → Result Question QuestionFault
    → Result Question QuestionFault
of_objects line said more = if none said.objects then fault_at line NoFolder else more

abbrev pub added : ℕ → Question → Said → Result Question QuestionFault
added line said (Pair group user) =
    within line MOST_MEMBERS (length said.members)
    (record said { members = said.members ++ (group, user) ∷ [] })
added line said (Caller supposed) =
    within line MOST_SUPPOSED (length said.supposed)
    (record said { supposed = said.supposed ++ supposed ∷ [] })
added line said (Stands object) =
    unless line (place_fault said.objects object)
    (within line MOST_PARTS (parts said) (record said { objects = said.objects ++ object ∷ [] }))
added line said (Changes change) =
    of_objects line said
    (within line MOST_PARTS (parts said) (record said { changes = said.changes ++ change ∷ [] }))
added line said (Looks look) =
    of_objects line said
    (within line MOST_PARTS (parts said) (record said { looks = said.looks ++ look ∷ [] }))
added line said Lists = of_objects line said (Ok (record said { lists = true }))

abbrev pub with_said : ℕ → Question → Said → Result Question QuestionFault
with_said line said more =
    if may_follow said more then added line said more else fault_at line NoSuchLine

-- ---- the whole

-- what was said before, and what the items say, up to the first fault
abbrev pub question_from : Question → List Item → Result Question QuestionFault
question_from said [] = Ok said
question_from said (item ∷ items) =
    and_then (said_of item.number item.line item.below) (λ more.
    and_then (with_said item.number said more) (λ all. question_from all items))

-- there has to be an object
abbrev pub with_objects : ℕ → Question → Result Question QuestionFault
with_objects count said = of_objects (count + 1) said (Ok said)

-- The question that the bytes spell, or the first line that has a fault.
abbrev pub question_of : List ℕ → Result Question QuestionFault
question_of bytes =
    if nat_lt MOST_QUESTION (length bytes)
    then fault_at (length (lines_of (take (MOST_QUESTION + 1) bytes))) TooMuch
    else and_then (question_from nothing_said (items_from 1 (lines_of bytes)))
    (with_objects (length (lines_of bytes)))
