-- Why a question has no answer, and the words of it (own).
use Rattle.std.specs.Prelude.{ℕ, List, ◌++◌, codes, decimal}
use Rattle.room_entry.specs.declared.failure.Failure.{Failure}
use Rattle.room_entry.specs.declared.failure.Failure.TheVariants.{OutOfMemory, Fault}
use Rattle.room_piece.specs.Refusing.{why_text}
use Rattle.room_piece.specs.declared.refusal.Refusal.{Refusal}
use Rattle.room_question.specs.Faults.{question_why_text}
use Rattle.room_question.specs.declared.fault.QuestionFault.{QuestionFault}
use Rattle.room_question.specs.declared.fault.QuestionWhy.TheVariants.{TooMuch}
use Rattle.room_would.specs.declared.fault.WouldFault.{WouldFault}
use Rattle.room_would.specs.declared.fault.WouldWhy.{WouldWhy}
use Rattle.room_would.specs.declared.fault.WouldWhy.TheVariants.{Question, Piece}

-- what a failure says of its fault; of memory that ran out it says nothing
abbrev pub Blames : {F : Type 0} → (F → Type 0) → Failure F → Type 0
Blames says OutOfMemory = Unit {0}
Blames says (Fault fault) = says fault

-- the same failure, with another fault
abbrev pub becomes : {E F : Type 0} → (E → F) → Failure E → Failure F
becomes turn OutOfMemory = OutOfMemory
becomes turn (Fault fault) = Fault (turn fault)

abbrev pub unread : QuestionFault → WouldFault
unread fault = record { line = fault.line; why = Question fault.why }

abbrev pub unbuilt : Refusal → WouldFault
unbuilt refusal = record { line = refusal.line; why = Piece refusal.why }

-- the last line of a text that asks for too much
abbrev pub too_much : ℕ → WouldFault
too_much lines = record { line = lines; why = Question TooMuch }

-- ---- the words

abbrev pub would_why_text : WouldWhy → List ℕ
would_why_text (Question why) = question_why_text why
would_why_text (Piece why) = why_text why

-- the line, and what is wrong with it
abbrev pub would_fault_text : WouldFault → List ℕ
would_fault_text fault =
    codes "line " ++ (decimal fault.line ++ (codes ": " ++ would_why_text fault.why))
