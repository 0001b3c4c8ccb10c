-- What the laws ask of contents, which each content has and keeps (own).
use Rattle.std.specs.Prelude.{◌≡◌, ℕ, ◌∷◌, map, Some, None}
use Rattle.std.specs.Prelude.{IsTrue, is_some}
use Rattle.room_rows.specs.Content.{Content, body_of, is_rising, IsContent}
use Rattle.room_rows.specs.Content.{node_at, are_names_apart}
use Rattle.room_rows.specs.declared.node.Node.{Node}
use Rattle.room_machine.specs.Run.{Event, Happens}

-- each object has a number of its own, from 1 on
abbrev pub IsNumbered : Content → Type 0
IsNumbered content = IsTrue (is_rising (0 ∷ map (λ node. node.id) content.nodes))

-- The objects are those of a tree: names differ in each folder, each parent is there, and bytes
-- belong to an object.
pub record IsTidy (content : Content) : Type 0 where
  pub names : IsTrue (are_names_apart content.nodes)
  pub parents : (node : Node) (id : ℕ) → node_at content node.id ≡ Some node
      → node.parent ≡ Some id → IsTrue (is_some (node_at content id))
  pub bodies : (id : ℕ) → node_at content id ≡ None → body_of content id ≡ None

-- Each content is tidy.
abbrev pub ContentIsTidy : Type 0
ContentIsTidy = (content : Content) → IsContent content → IsTidy content

-- Whatever happens, numbers differ and contents stay tidy.
abbrev pub StaysTidy : Type 0
StaysTidy = (before : Content) (event : Event) (after : Content) → IsNumbered before
    → IsTidy before → Happens before event after → IsNumbered after × IsTidy after
