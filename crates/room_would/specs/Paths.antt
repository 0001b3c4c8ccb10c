-- The object that an answer begins at (own).
use Rattle.std.specs.Prelude.{ℕ, ◌+◌, List, [], ◌∷◌, take, Option, Some, None, unwrap_or}
use Rattle.std.specs.Prelude.{if◌then◌else◌}
use Rattle.std.specs.List.{fold}
use Rattle.room_entry.specs.Pieces.{same_text}
use Rattle.room_question.specs.declared.question.Change.{Change}
use Rattle.room_question.specs.declared.question.Change.TheVariants.{Sets, Moves, Comes}
use Rattle.room_question.specs.declared.question.Question.{Question}

-- how many names two paths have in common
abbrev pub shared_count : List (List ℕ) → List (List ℕ) → ℕ
shared_count [] others = 0
shared_count (name ∷ names) [] = 0
shared_count (name ∷ names) (other ∷ others) =
    if same_text name other then shared_count names others + 1 else 0

-- the front that a path has in common with that of those before it, if there are any
abbrev pub met : Option (List (List ℕ)) → List (List ℕ) → Option (List (List ℕ))
met None path = Some path
met (Some front) path = Some (take (shared_count front path) front)

-- where the object of a change stands right after it
abbrev pub target : Change → List (List ℕ)
target (Sets setting) = setting.path
target (Moves moving) = moving.to
target (Comes object) = object.path

-- The deepest object that has in it whatever is set, moved, brought or looked at: its path is what
-- the paths of these have in common. It is the root where there are none.
abbrev pub first_path : Question → List (List ℕ)
first_path question =
    unwrap_or (fold (λ front look. met front look.path)
    (fold (λ front change. met front (target change)) None question.changes) question.looks) []
