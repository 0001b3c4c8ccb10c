-- The objects along a path.
use Rattle.std.specs.Prelude.{◌≡◌, ℕ, List, [], ◌∷◌, length}
use Rattle.std.specs.Option.{option_map_or}
use Rattle.room_rows.specs.declared.node.Node.{Node}
use Rattle.room_rows.specs.declared.node.Walk.{Walk}
use Rattle.room_rows.specs.Content.{Content, root_of, child_of}
use Rattle.room_rows.specs.Rows.{Rows}

abbrev pub behind : Node → Walk → Walk
behind node walk = record { chain = node ∷ walk.chain; rest = walk.rest }

-- from an object along the names, as far as there are children of these names
abbrev pub walk_from : Content → Node → List (List ℕ) → Walk
walk_from content node [] = record { chain = node ∷ []; rest = 0 }
walk_from content node (name ∷ names) =
    option_map_or (λ child. behind node (walk_from content child names))
    (child_of content node.id name) (record { chain = node ∷ []; rest = length (name ∷ names) })

-- The objects that a path leads to, from the root on, and how many of its names are left over.
abbrev pub walk_of : Content → List (List ℕ) → Walk
walk_of content names =
    option_map_or (λ root. walk_from content root names) (root_of content)
    (record { chain = []; rest = length names })

abbrev pub IsWalk : List (List ℕ) → Rows → Walk → Type 0
IsWalk names rows walk = walk ≡ walk_of rows.read names
