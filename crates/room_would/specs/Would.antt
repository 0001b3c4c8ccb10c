-- The answer to a question (own).
use Rattle.std.specs.Prelude.{◌≡◌, ℕ, ◌<◌, ◌≤◌, List, ◌++◌, length, Some, None, Result, Ok, Err}
use Rattle.room_ace.specs.Lists.{lines_of}
use Rattle.room_entry.specs.declared.failure.Failure.{Failure}
use Rattle.room_entry.specs.declared.failure.Failure.TheVariants.{OutOfMemory, Fault}
use Rattle.room_piece.specs.Building.{CannotBuild, IsPiece}
use Rattle.room_piece.specs.Changing.{CannotDo, IsDone}
use Rattle.room_piece.specs.InTurn.{InTurn, StopsInTurn}
use Rattle.room_piece.specs.declared.piece.Piece.{Piece}
use Rattle.room_piece.specs.declared.refusal.Refusal.{Refusal}
use Rattle.room_question.specs.Reading.{question_of}
use Rattle.room_question.specs.declared.fault.QuestionFault.{QuestionFault}
use Rattle.room_question.specs.declared.question.Question.{Question}
use Rattle.room_turns.specs.declared.asked.Asked.{Asked}
use Rattle.room_turns.specs.Turns.{IsCompared}
use Rattle.room_would.specs.Asking.{IsAsked, State, state_of, turns}
use Rattle.room_would.specs.Faults.{too_much, unbuilt, unread}
use Rattle.room_would.specs.Lists.{lists_told}
use Rattle.room_would.specs.Looking.{lost_look}
use Rattle.room_would.specs.Names.{AreFree}
use Rattle.room_would.specs.declared.fault.WouldFault.{WouldFault}
use Rattle.room_would.specs.declared.limits.TheConstants.{MOST_TURNS}

-- ---- of two states

-- the rows that are asked for, and the lists behind them
pub record SaysAll (question : Question) (asked : Asked) (before after : State)
    (text : List ℕ) : Type 0 where
  pub rows : List ℕ
  pub compared : IsCompared asked before.rows after.rows rows
  pub whole : text
      ≡ rows ++ lists_told question.lists after.rows after.unknown question.changes

-- the same of all callers, where that isn't too much
pub record Says (question : Question) (stranger : List ℕ) (before after : State)
    (text : List ℕ) : Type 0 where
  pub asked : Asked
  pub is_asked : IsAsked question stranger before after asked
  pub few : turns asked after.rows ≤ MOST_TURNS
  pub all : SaysAll question asked before after text

-- it is too much
pub record IsTooMuch (lines : ℕ) (question : Question) (stranger : List ℕ) (before after : State)
    (fault : WouldFault) : Type 0 where
  pub asked : Asked
  pub is_asked : IsAsked question stranger before after asked
  pub many : MOST_TURNS < turns asked after.rows
  pub fault_is : fault ≡ too_much lines

-- what is looked at is there
pub record SaysFound (question : Question) (stranger : List ℕ) (before after : State)
    (text : List ℕ) : Type 0 where
  pub found : lost_look after.rows question.looks ≡ None
  pub says : Says question stranger before after text

-- what is looked at isn't there; or it is, and that is too much
pub data CannotSay (lines : ℕ) (question : Question) (stranger : List ℕ) (before after : State)
    (fault : WouldFault) : Type 0 where
  Lost : lost_look after.rows question.looks ≡ Some fault
      → CannotSay lines question stranger before after fault
  Many : lost_look after.rows question.looks ≡ None
      → IsTooMuch lines question stranger before after fault
      → CannotSay lines question stranger before after fault

-- ---- from a piece on

-- the changes are done on a copy of the piece, and both are told of
pub record TellsFrom (unread stranger : List ℕ) (question : Question) (before : Piece)
    (text : List ℕ) : Type 0 where
  pub after : Piece
  pub done : InTurn (IsDone unread) question.changes before after
  pub says : SaysFound question stranger (state_of before) (state_of after) text

-- a change can't be done, or the states can't be told of
pub data StopsFrom (lines : ℕ) (unread stranger : List ℕ) (question : Question) (before : Piece)
    (fault : WouldFault) : Type 0 where
  Undone : (refusal : Refusal)
      → StopsInTurn (IsDone unread) CannotDo question.changes before refusal
      → fault ≡ unbuilt refusal → StopsFrom lines unread stranger question before fault
  Unsaid : (after : Piece) → InTurn (IsDone unread) question.changes before after
      → CannotSay lines question stranger (state_of before) (state_of after) fault
      → StopsFrom lines unread stranger question before fault

-- ---- of a question

-- The piece is built with a name that isn't in the question for what isn't known, and told of from
-- there on.
pub record IsTold (question : Question) (text : List ℕ) : Type 0 where
  pub unread : List ℕ
  pub stranger : List ℕ
  pub free : AreFree question unread stranger
  pub before : Piece
  pub built : IsPiece unread question before
  pub told : TellsFrom unread stranger question before text

pub data IsStopped (lines : ℕ) (question : Question) (fault : WouldFault) : Type 0 where
  Unbuilt : (unread stranger : List ℕ) → AreFree question unread stranger → (refusal : Refusal)
      → CannotBuild unread question refusal → fault ≡ unbuilt refusal
      → IsStopped lines question fault
  Behind : (unread stranger : List ℕ) → AreFree question unread stranger → (before : Piece)
      → IsPiece unread question before → StopsFrom lines unread stranger question before fault
      → IsStopped lines question fault

-- ---- of a text

-- The text spells a question, which is told of.
abbrev pub IsAnswer : List ℕ → List ℕ → Type 0
IsAnswer bytes text =
    (question : Question) × (question_of bytes ≡ Ok question) × IsTold question text

-- The text has a fault, or spells a question that can't be told of.
pub data IsRefused (bytes : List ℕ) (fault : WouldFault) : Type 0 where
  Unread : (first : QuestionFault) → question_of bytes ≡ Err first → fault ≡ unread first
      → IsRefused bytes fault
  Stopped : (question : Question) → question_of bytes ≡ Ok question
      → IsStopped (length (lines_of bytes)) question fault → IsRefused bytes fault

-- What is answered to the text of a question, unless memory ran out.
abbrev pub IsWould : List ℕ → Result (List ℕ) (Failure WouldFault) → Type 0
IsWould bytes (Ok text) = IsAnswer bytes text
IsWould bytes (Err OutOfMemory) = Unit {0}
IsWould bytes (Err (Fault fault)) = IsRefused bytes fault
