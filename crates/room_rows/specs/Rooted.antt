-- Rows that have a root.
use Rattle.std.specs.Prelude.{ℕ, List, IsTrue, is_some}
use Rattle.room_rows.specs.declared.node.Walk.{Walk}
use Rattle.room_rows.specs.Content.{root_of}
use Rattle.room_rows.specs.Rows.{Rows}
use Rattle.room_rows.specs.Walk.{IsWalk}

-- some object is without a parent
abbrev pub HasRoot : Rows → Type 0
HasRoot rows = IsTrue (is_some (root_of rows.read))

-- The walk along the names, which starts at a root.
abbrev pub IsWalkFromRoot : List (List ℕ) → Rows → Walk → Type 0
IsWalkFromRoot names rows walk = IsWalk names rows walk × HasRoot rows
