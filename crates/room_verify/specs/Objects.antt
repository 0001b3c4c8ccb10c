-- Objects alone, without what else a content has.
use Rattle.std.specs.Prelude.{ℕ, Bool, List, [], ◌∷◌, map, length, Option, Some, None, IsTrue}
use Rattle.std.specs.Prelude.{nat_lt, if◌then◌else◌}
use Rattle.room_rows.specs.declared.node.Node.{Node}
use Rattle.room_rows.specs.Content.{Content, is_rising, reaches_root}

-- a content of these objects, without bytes, pairs and records
abbrev pub only : List Node → Content
only nodes = record { nodes = nodes; bodies = []; members = []; audits = [] }

-- the numbers rise, from 1 on
abbrev pub are_rising : List Node → Bool
are_rising nodes = is_rising (0 ∷ map (λ node. node.id) nodes)

-- the first number that isn't above the one before it, where the first has to be above this one
abbrev pub first_fallen : ℕ → List Node → Option ℕ
first_fallen last [] = None
first_fallen last (node ∷ nodes) =
    if nat_lt last node.id then first_fallen node.id nodes else Some node.id

-- from the object of this number the parents lead to the root
abbrev pub leads : List Node → ℕ → Bool
leads nodes id = reaches_root (length nodes) (only nodes) (Some id)

-- from each of the known numbers
abbrev pub AllLead : List Node → (ℕ → Bool) → Type 0
AllLead nodes known = (id : ℕ) → IsTrue (known id) → IsTrue (leads nodes id)
