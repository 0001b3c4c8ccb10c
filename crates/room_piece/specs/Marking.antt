-- What isn't known of a piece (own).
use Rattle.std.specs.Prelude.{◌≡◌, ℕ, ◌==◌, ◌||◌, Bool, true, false, not, List, [], ◌∷◌, ◌++◌}
use Rattle.std.specs.Prelude.{filter, map, if◌then◌else◌}
use Rattle.std.specs.List.{list_any}
use Rattle.room_entry.specs.Pieces.{is_among}
use Rattle.room_rows.specs.declared.node.Node.{Node}
use Rattle.room_rows.specs.Content.{Content, children_of}
use Rattle.room_rows.specs.Rows.{Rows}
use Rattle.room_question.specs.declared.question.Listed.{Listed}
use Rattle.room_question.specs.declared.question.Listed.TheVariants.{Follows, Unread, Text}
use Rattle.room_piece.specs.Walking.{IsWay}
use Rattle.room_piece.specs.declared.walking.Way.{Way}

abbrev pub is_unread : Listed → Bool
is_unread Follows = false
is_unread Unread = true
is_unread (Text sent) = false

-- with the number, where it is one of these
abbrev pub with_mark : Bool → ℕ → List ℕ → List ℕ
with_mark is_one id numbers = if is_one then numbers ++ id ∷ [] else numbers

abbrev pub without : ℕ → List ℕ → List ℕ
without id numbers = filter (λ other. not (other == id)) numbers

-- one of the objects isn't known
abbrev pub has_unknown : List ℕ → List Node → Bool
has_unknown unknown nodes = list_any (λ node. is_among unknown node.id) nodes

-- ---- a dacl that is set

-- the children of the object instead of it
abbrev pub with_children : Content → ℕ → List ℕ → List ℕ
with_children rows id unknown = without id unknown ++ map (λ node. node.id) (children_of rows id)

-- it was known, or one above it isn't
abbrev pub stays : List ℕ → Way → Bool
stays unknown way = not (is_among unknown way.last.id) || has_unknown unknown way.above.items

-- Its object is known then, if all above it are. What is in it isn't: it had followed a list that
-- wasn't known.
abbrev pub once_set : Content → Way → List ℕ → List ℕ
once_set rows way unknown =
    if stays unknown way then unknown else with_children rows way.last.id unknown

pub record IsSetAt (path : List (List ℕ)) (rows : Rows) (old new : List ℕ) : Type 0 where
  pub way : Way
  pub goes : IsWay path way rows
  pub becomes : new ≡ once_set rows.read way old

-- ---- an object that is moved

-- Where one above it isn't known, it isn't either, wherever it is moved.
abbrev pub once_moved : Way → List ℕ → List ℕ
once_moved way unknown =
    with_mark (has_unknown unknown way.above.items) way.last.id unknown

pub record IsMovedFrom (path : List (List ℕ)) (rows : Rows) (old new : List ℕ) : Type 0 where
  pub way : Way
  pub goes : IsWay path way rows
  pub becomes : new ≡ once_moved way old
