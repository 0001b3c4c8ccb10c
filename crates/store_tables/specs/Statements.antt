-- What the statements of the keeper show of the tables, and what they leave.
use Rattle.std.specs.Prelude.{◌≡◌, ◌<◌, ℕ, ℤ, pos, List, [], ◌∷◌, map, filter, take, Result, IfOk}
use Rattle.std.specs.Prelude.{OnOk, Vec}
use Rattle.std.specs.Global.{Global}
use Rattle.std.specs.List.Sorted.{IsPermutation}
use Rattle.sqlite.specs.Order.{Row, column, value_cmp}
use Rattle.sqlite.specs.Tree.{Trees, has_rowid}
use Rattle.sqlite.specs.declared.error.Error.{Error}
use Rattle.sqlite.specs.State.{State, HasCleanDisk, IsUnchanged}
use Rattle.sqlite_keyed.specs.Lists.{sort_by}
use Rattle.std.specs.declared.cmp.Ordering.{Ordering}
use Rattle.sqlite.specs.Edit.{next_rowid}
use Rattle.store_tables.specs.Shown.{AddsRow, IsRoom, Stays, shown_node, is_child, is_child_named}
use Rattle.store_tables.specs.Shown.{is_numbered, is_top, is_user_row}
pub use Rattle.store_tables.specs.Meaning.{shown_name}
use Rattle.store_tables.specs.Trees as tree
use Rattle.store_tables.specs.NodeCells as cell
use Rattle.store_tables.specs.BodyCells as body
use Rattle.store_tables.specs.PairCells as pair

-- ---- queries

-- Over a room's tables the query shows such rows, and changes nothing.
pub record QueriesSql (Shows : Trees → List Row → Type 0) (old new : State)
    (result : Result (Vec Row Global) Error) : Type 0 where
  pub rows : HasCleanDisk new → IsRoom old.now
      → IfOk result (λ rows. Shows old.now.trees rows.items)
  pub same : HasCleanDisk new → IsRoom old.now → OnOk result (IsUnchanged old new)
  pub stays : Stays old new

-- the row of this number
abbrev pub HasNode : ℤ → Trees → List Row → Type 0
HasNode id db rows = IsPermutation (map shown_node (filter (has_rowid id) (db tree.nodes))) rows

-- the rows of this parent and this name
abbrev pub HasChild : ℤ → List ℕ → Trees → List Row → Type 0
HasChild parent name db rows =
    IsPermutation (map shown_node (filter (is_child_named parent name) (db tree.nodes))) rows

abbrev pub shown_number : Row → Row
shown_number r = column r cell.number ∷ []

-- the number of one of the rows of this parent, if there are any
abbrev pub HasSome : ℤ → Trees → List Row → Type 0
HasSome parent db rows = (all : List Row)
    × IsPermutation (map shown_number (filter (is_child parent) (db tree.nodes))) all
    × (rows ≡ take 1 all)

-- the row without a parent of the least number
abbrev pub HasTop : Trees → List Row → Type 0
HasTop db rows = rows ≡ take 1 (map shown_node (filter is_top (db tree.nodes)))

abbrev pub by_column : ℕ → Row → Row → Ordering
by_column place a b = value_cmp (column a place) (column b place)

-- the rows of this parent, in order of name
abbrev pub HasUnder : ℤ → Trees → List Row → Type 0
HasUnder parent db rows =
    rows ≡ map shown_node (sort_by (by_column cell.name) (filter (is_child parent) (db tree.nodes)))

-- the numbers, names and kinds of the rows of this parent, in order of name
abbrev pub HasNames : ℤ → Trees → List Row → Type 0
HasNames parent db rows =
    rows ≡ map shown_name (sort_by (by_column cell.name) (filter (is_child parent) (db tree.nodes)))

abbrev pub shown_group : Row → Row
shown_group r = column r pair.group ∷ []

-- the groups of this user, in order
abbrev pub HasGroups : List ℕ → Trees → List Row → Type 0
HasGroups user db rows =
    rows
    ≡ map shown_group (sort_by (by_column pair.group) (filter (is_user_row user) (db tree.members)))

-- all numbers, rising
abbrev pub HasNumbers : Trees → List Row → Type 0
HasNumbers db rows = rows ≡ map shown_number (filter is_numbered (db tree.nodes))

abbrev pub shown_bytes : Row → Row
shown_bytes r = column r body.bytes ∷ []

-- the bytes of this number
abbrev pub HasBytes : ℤ → Trees → List Row → Type 0
HasBytes id db rows = IsPermutation (map shown_bytes (filter (has_rowid id) (db tree.bodies))) rows

-- ---- changes

-- Over a room's tables the command leaves this, by the count that it answers.
pub record ExecutesSql (Leaves : ℕ → State → State → Type 0) (old new : State)
    (result : Result ℕ Error) : Type 0 where
  pub leaves : HasCleanDisk new → IsRoom old.now → IfOk result (λ count. Leaves count old new)
  pub stays : Stays old new

-- the trees become so, where one row was changed
abbrev pub OfOne : (Trees → Trees → Type 0) → ℕ → State → State → Type 0
OfOne Becomes count old new = count ≡ 1 → Becomes old.now.trees new.now.trees

-- the row of this number, which counts from 1, becomes so, where it alone was changed
abbrev pub OfRow : ℕ → (ℤ → Trees → Trees → Type 0) → ℕ → State → State → Type 0
OfRow id Becomes = OfOne (λ db next. (0 < id) × Becomes (pos id) db next)

-- the trees become so, whatever is counted
abbrev pub OfAny : (Trees → Trees → Type 0) → ℕ → State → State → Type 0
OfAny Becomes count old new = Becomes old.now.trees new.now.trees

-- the rows of these numbers, from the first to the last, become so
abbrev pub OfRows : ℕ → ℕ → (ℤ → ℤ → Trees → Trees → Type 0) → ℕ → State → State → Type 0
OfRows first last Becomes = OfAny (λ db next. (0 < first) × Becomes (pos first) (pos last) db next)

-- a row of nodes is put in with the next number, which the connection then answers
abbrev pub PutsNode : Row → State → State → Type 0
PutsNode values old new =
    AddsRow (next_rowid (old.now.trees tree.nodes)) values old.now.trees new.now.trees
    × (new.last_rowid ≡ next_rowid (old.now.trees tree.nodes))

abbrev pub OfNode : Row → ℕ → State → State → Type 0
OfNode values count old new = PutsNode values old new
