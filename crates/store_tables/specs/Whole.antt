-- What a keeper over tables answers besides: a row that can't be read doesn't count as none.
use Rattle.std.specs.Prelude.{◌≡◌, ℕ, pos, Bool, not, List, [], ◌∷◌, filter, length, map, take}
use Rattle.std.specs.Prelude.{Option, Some, is_some, Result, IfOk}
use Rattle.sqlite.specs.Effect.{Database}
use Rattle.sqlite.specs.State.{State}
use Rattle.room_rows.specs.declared.keep.KeepFault.{KeepFault}
use Rattle.room_rows.specs.declared.node.Node.{Node}
use Rattle.room_rows.specs.Content.{is_empty}
use Rattle.store_tables.specs.Meaning.{node_in}
use Rattle.store_tables.specs.Shown.{is_child, is_child_named, is_top, shown_node}
use Rattle.store_tables.specs.Trees as tree
use Rattle.store_tables.specs.Trust.{IsTrusted}

-- The root is the first row without a parent, and none before it is left out.
abbrev pub SeesTop : Database → Node → Type 0
SeesTop db node =
    map (λ r. node_in (shown_node r)) (take 1 (filter is_top (db.trees tree.nodes)))
    ≡ Some node ∷ []

-- There is a child of this name exactly if there is a row of this parent and this name.
abbrev pub SeesNamed : ℕ → List ℕ → Database → Option Node → Type 0
SeesNamed parent name db found =
    is_some found ≡ not (is_empty (filter (is_child_named (pos parent) name) (db.trees tree.nodes)))

-- There is an answer for each row of this parent.
abbrev pub SeesEach : {X : Type 0} → ℕ → Database → List X → Type 0
SeesEach parent db answers =
    length answers ≡ length (filter (is_child (pos parent)) (db.trees tree.nodes))

-- There are children exactly if there is a row of this parent.
abbrev pub SeesSome : ℕ → Database → Bool → Type 0
SeesSome parent db answer =
    answer ≡ not (is_empty (filter (is_child (pos parent)) (db.trees tree.nodes)))

-- An answer is so of the tables, where answers are those of the rows.
abbrev pub Sees : {X : Type 0} → State → State → Result X KeepFault → (Database → X → Type 0)
    → Type 0
Sees old new result Answers = IsTrusted old new → IfOk result (Answers old.now)
