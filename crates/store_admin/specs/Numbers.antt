-- Whether a number is left for the next record, and for the next object.
use Rattle.std.specs.Prelude.{◌≡◌, ℕ, ℤ, pos, Bool, List, [], ◌∷◌, ◌&&◌, not, codes, filter, map}
use Rattle.std.specs.List.{Sorted.IsPermutation}
use Rattle.std.specs.Ordering.{is_eq, is_lt}
use Rattle.sqlite.specs.Effect.{Database}
use Rattle.sqlite.specs.Order.{Row, column, value_cmp}
use Rattle.sqlite.specs.Tree.{Trees}
use Rattle.sqlite.specs.declared.types.Value.TheVariants.{Int, Text}
use Rattle.store_tables.specs.Trees as tree
use Rattle.store_tables.specs.NodeCells as cell

-- the tree of the table by which the library counts records
abbrev pub counters : ℕ
counters = 8

-- the largest number that a row can have
abbrev pub largest : ℤ
largest = pos 9223372036854775807

-- The row counts the records, and isn't below that number. A text or bytes aren't either.
abbrev pub is_spent : Row → Bool
is_spent r = is_eq (value_cmp (column r 1) (Text (codes "audits")))
    && not (is_lt (value_cmp (column r 2) (Int largest)))

-- No row that counts the records has come to the largest number.
abbrev pub HasRecordNumbers : Database → Type 0
HasRecordNumbers db = filter is_spent (db.trees counters) ≡ []

-- the row of an object whose number isn't below the largest
abbrev pub is_last : Row → Bool
is_last r = not (is_lt (value_cmp (column r cell.number) (Int largest)))

-- No object has the largest number: the next one gets a number above all others.
abbrev pub HasObjectNumbers : Database → Type 0
HasObjectNumbers db = filter is_last (db.trees tree.nodes) ≡ []

-- The next record and the next object can get a number.
pub record HasNumbers (db : Database) : Type 0 where
  pub records : HasRecordNumbers db
  pub objects : HasObjectNumbers db

-- the numbers of rows that count records and are spent, in any order
abbrev pub ShowsSpent : Trees → List Row → Type 0
ShowsSpent db rows =
    IsPermutation (map (λ r. column r 2 ∷ []) (filter is_spent (db counters))) rows

-- the numbers of objects that are the largest, in any order
abbrev pub ShowsLast : Trees → List Row → Type 0
ShowsLast db rows =
    IsPermutation (map (λ r. column r cell.number ∷ []) (filter is_last (db tree.nodes))) rows
