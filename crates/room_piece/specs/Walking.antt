-- Where a path leads.
use Rattle.std.specs.Prelude.{◌≡◌, ℕ, List, [], ◌∷◌, ◌++◌}
use Rattle.room_rows.specs.Rows.{Rows}
use Rattle.room_rows.specs.Walk.{walk_of}
use Rattle.room_piece.specs.declared.walking.Way.{Way}

-- what is found holds of the rows, which stay
abbrev pub Finds : (Rows → Type 0) → Rows → Rows → Type 0
Finds holds old new = holds old × (new ≡ old)

-- the objects on the way along the path, and what is left over of it
abbrev pub IsWay : List (List ℕ) → Way → Rows → Type 0
IsWay path way rows =
    walk_of rows.read path ≡ record { chain = way.above.items ++ way.last ∷ []; rest = way.rest }
