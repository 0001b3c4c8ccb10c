-- What a question asks of the two states of a piece (own).
use Rattle.std.specs.Prelude.{◌≡◌, ℕ, ◌*◌, List, length}
use Rattle.room_memory.specs.Memory.{rows_in}
use Rattle.room_rows.specs.Rows.{Rows, numbers_of}
use Rattle.room_piece.specs.declared.piece.Piece.{Piece}
use Rattle.room_question.specs.Reading.{none}
use Rattle.room_question.specs.declared.question.Question.{Question}
use Rattle.room_turns.specs.declared.asked.Asked.{Asked}
use Rattle.room_would.specs.Parties.{AreParties}
use Rattle.room_would.specs.Paths.{first_path}

-- a state of a piece: its rows, the numbers of the objects that each caller is to have made, and of
-- those whose lists aren't known
pub record State : Type 0 where
  pub rows : Rows
  pub each : List ℕ
  pub unknown : List ℕ

abbrev pub state_of : Piece → State
state_of piece =
    record { rows = rows_in piece.keep; each = piece.each; unknown = piece.unknown }

-- Of all callers, from the deepest object on that has in it what is changed. The objects that each
-- caller is to have made are those of the state after, which has them all.
pub record IsAsked (question : Question) (stranger : List ℕ) (before after : State)
    (asked : Asked) : Type 0 where
  pub parties : AreParties question stranger before.rows asked.parties.items
  pub path : asked.path ≡ first_path question
  pub hidden_before : asked.hidden_before ≡ before.unknown
  pub hidden_after : asked.hidden_after ≡ after.unknown
  pub own : asked.own ≡ after.each
  pub looks : asked.looks ≡ none question.changes

-- how many callers times objects are looked at
abbrev pub turns : Asked → Rows → ℕ
turns asked after = length asked.parties.items * length (numbers_of after)
