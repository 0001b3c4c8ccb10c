-- What is true of each question that is read.
use Rattle.std.specs.Prelude.{◌≡◌, ℕ, ◌&&◌, Bool, true, IsTrue, List, [], ◌∷◌, ◌++◌, Ok, is_none}
use Rattle.room_question.specs.Reading.{place_fault, question_of}
use Rattle.room_question.specs.declared.question.Object.{Object}
use Rattle.room_question.specs.declared.question.Question.{Question}

-- each object may stand where it is said to, behind those before it
abbrev pub are_standing : List Object → List Object → Bool
are_standing before [] = true
are_standing before (object ∷ objects) =
    is_none (place_fault before object) && are_standing (before ++ object ∷ []) objects

-- The objects of a question stand: the first is the root, a folder, each other is in a folder that
-- comes before it, and no path comes twice.
abbrev pub ObjectsStand : Type 0
ObjectsStand =
    (bytes : List ℕ) (question : Question) → question_of bytes ≡ Ok question
    → IsTrue (are_standing [] question.objects)
