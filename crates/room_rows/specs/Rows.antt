-- What a keeper holds.
use Rattle.std.specs.Prelude.{◌≡◌, ℕ, ℤ, Bool, List, [], ◌∷◌, map, Option, is_none, nat_lt}
use Rattle.std.specs.Prelude.{IsTrue, if◌then◌else◌}
use Rattle.std.specs.Float.{Float}
use Rattle.std.specs.List.{list_all}
use Rattle.room_entry.specs.Pieces.{is_among}
use Rattle.room_entry.specs.declared.object.ObjKind.{ObjKind}
use Rattle.room_rows.specs.Content.{Content, node_at, is_rising, set_of}

-- a value as it is stored
pub data Stored : Type 0 where
  Nothing : Stored
  Whole : ℤ → Stored
  Fraction : Float → Stored
  Text : List ℕ → Stored
  Bytes : List ℕ → Stored

-- A row that can't be read as an object: its number, its parent, and its name and kind, where these
-- can be read, and all its values as they are stored.
pub record Unread : Type 0 where
  pub id : ℕ
  pub parent : Option ℕ
  pub named : Option (List ℕ × ObjKind)
  pub values : List Stored

-- The objects as their rows say, with the inherited entries that are stored, and in rising order
-- of their numbers the rows that can't be read as an object.
pub record Rows : Type 0 where
  pub read : Content
  pub unreadable : List Unread

abbrev pub unread_numbers : Rows → List ℕ
unread_numbers rows = map (λ row. row.id) rows.unreadable

abbrev pub is_unreadable : Rows → ℕ → Bool
is_unreadable rows id = is_among (unread_numbers rows) id

abbrev pub put_number : ℕ → List ℕ → List ℕ
put_number id [] = id ∷ []
put_number id (other ∷ others) =
    if nat_lt other id then other ∷ put_number id others else id ∷ other ∷ others

abbrev pub put_numbers : List ℕ → List ℕ → List ℕ
put_numbers [] ids = ids
put_numbers (id ∷ more) ids = put_number id (put_numbers more ids)

-- all numbers in use, rising
abbrev pub numbers_of : Rows → List ℕ
numbers_of rows = put_numbers (unread_numbers rows) (map (λ node. node.id) rows.read.nodes)

-- What every keeper sees to, whatever else its rows say: all numbers are from 1 on and stand once,
-- bytes belong to a number that is in use, and the pairs stand in order, each once.
pub record AreRows (rows : Rows) : Type 0 where
  pub numbers : IsTrue (is_rising (0 ∷ map (λ node. node.id) rows.read.nodes))
  pub unreadable : IsTrue (is_rising (0 ∷ unread_numbers rows))
  pub apart : IsTrue (list_all (λ id. is_none (node_at rows.read id)) (unread_numbers rows))
  pub body_numbers : IsTrue (is_rising (0 ∷ map (λ row. row.0) rows.read.bodies))
  pub bodies : IsTrue (list_all (λ row. is_among (numbers_of rows) row.0) rows.read.bodies)
  pub members : set_of rows.read.members ≡ rows.read.members
