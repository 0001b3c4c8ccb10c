-- The words of the faults of a question (own).
use Rattle.std.specs.Prelude.{ℕ, List, ◌++◌, codes, decimal}
use Rattle.room_ace.specs.Faults.{why_text}
use Rattle.room_rows.specs.Faults.{path_fault_text}
use Rattle.room_question.specs.declared.fault.QuestionFault.{QuestionFault}
use Rattle.room_question.specs.declared.fault.QuestionWhy.{QuestionWhy}
use Rattle.room_question.specs.declared.fault.QuestionWhy.TheVariants.{NoSuchLine, BadName, NoFolder}
use Rattle.room_question.specs.declared.fault.QuestionWhy.TheVariants.{Exists, TooMuch, Path, List as OfList}

abbrev pub question_why_text : QuestionWhy → List ℕ
question_why_text NoSuchLine = codes "W1 no such line"
question_why_text BadName = codes "W2 bad name"
question_why_text NoFolder = codes "W3 no folder"
question_why_text Exists = codes "W4 exists"
question_why_text TooMuch = codes "W6 too much"
question_why_text (Path fault) = path_fault_text fault
question_why_text (OfList why) = why_text why

-- the first line that has a fault, and the fault
abbrev pub question_fault_text : QuestionFault → List ℕ
question_fault_text fault =
    codes "line " ++ (decimal fault.line ++ (codes ": " ++ question_why_text fault.why))
