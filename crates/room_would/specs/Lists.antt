-- The lists of an answer (own).
use Rattle.std.specs.Prelude.{ℕ, ◌==◌, ◌&&◌, Bool, not, List, [], if◌then◌else◌}
use Rattle.std.specs.List.{flat_map}
use Rattle.std.specs.Option.{option_map_or}
use Rattle.room_rows.specs.Held.{full_of}
use Rattle.room_rows.specs.Paths.{path_text}
use Rattle.room_rows.specs.Rows.{Rows}
use Rattle.room_rows.specs.Walk.{walk_of}
use Rattle.room_rows.specs.declared.node.Walk.{Walk}
use Rattle.room_machine.specs.Rights.{last_of}
use Rattle.room_piece.specs.Marking.{has_unknown}
use Rattle.room_question.specs.declared.question.Change.{Change}
use Rattle.room_answer.specs.Answer.{list_part}
use Rattle.room_would.specs.Paths.{target}

-- the walk found an object, and all that it passed is known
abbrev pub is_told : List ℕ → Walk → Bool
is_told unknown found = (found.rest == 0) && not (has_unknown unknown found.chain)

abbrev pub list_by : List ℕ → List (List ℕ) → Walk → List ℕ
list_by unknown path found =
    if is_told unknown found
    then option_map_or (λ node. list_part (path_text path) node.dacl.flags (full_of node.dacl))
    (last_of found.chain) []
    else []

-- the list of the object at a path; nothing where none stands, or where it isn't known
abbrev pub list_at : Rows → List ℕ → List (List ℕ) → List ℕ
list_at rows unknown path = list_by unknown path (walk_of rows.read path)

-- for each change, the list of the object that stands where it set, moved or brought one
abbrev pub lists_at : Rows → List ℕ → List Change → List ℕ
lists_at rows unknown changes = flat_map (λ change. list_at rows unknown (target change)) changes

-- these, if they are asked for
abbrev pub lists_told : Bool → Rows → List ℕ → List Change → List ℕ
lists_told lists rows unknown changes = if lists then lists_at rows unknown changes else []
