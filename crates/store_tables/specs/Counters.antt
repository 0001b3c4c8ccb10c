-- The counter of records, which the database keeps in `sqlite_sequence`, and what records do to it.
use Rattle.std.specs.Prelude.{◌≡◌, ℤ, Bool, List, [], ◌∷◌, ◌++◌, Option, Some, None, find, codes}
use Rattle.std.specs.Ordering.{is_eq}
use Rattle.sqlite.specs.Cast.{cast}
use Rattle.sqlite.specs.Kind.TheVariants.{Integer}
use Rattle.sqlite.specs.declared.types.Value.{Value}
use Rattle.sqlite.specs.declared.types.Value.TheVariants.{Int, Text}
use Rattle.sqlite.specs.Order.{Row, column, value_cmp}
use Rattle.sqlite.specs.Tree.{rowid, put_row, without_rowid}
use Rattle.sqlite.specs.Edit.{next_rowid}
use Rattle.sqlite.specs.Rowids.TheVariants.{Above}
use Rattle.sqlite.specs.Rows.{count_of}
use Rattle.sqlite_rules.specs.Edit.{at_least, id_in}
use Rattle.store_tables.specs.CounterCells as cell

-- the row counts the records
abbrev pub counts_records : Row → Bool
counts_records r = is_eq (value_cmp (column r cell.table) (Text (codes "audits")))

-- the number of the next record: one above the counter, and above those of all records
abbrev pub next_record : List Row → List Row → ℤ
next_record counters audits =
    at_least (Above (count_of (find counts_records counters))) (next_rowid audits)

-- a row that counts the records, as it is stored
abbrev pub counter_row : Value → ℤ → Row
counter_row id seq = id ∷ Text (codes "audits") ∷ Int seq ∷ []

-- the counters with this number in this row of them, or in a new one
abbrev pub with_count : ℤ → List Row → Option Row → List Row
with_count seq counters None = put_row (counter_row (Int (next_rowid counters)) seq) counters
with_count seq counters (Some r) =
    put_row (counter_row (cast Integer (rowid r)) seq) (without_rowid (id_in (rowid r)) counters)

-- the counters, that of the records at this number
abbrev pub counted_to : ℤ → List Row → List Row
counted_to seq counters = with_count seq counters (find counts_records counters)

-- Records are added one after the other: each gets the next number, at which the counter is then.
abbrev pub AreCounted : List Row → List Row → List Row → List Row → Type 0
AreCounted counters audits [] after = after ≡ counters
AreCounted counters audits (r ∷ more) after =
    (rowid r ≡ Int (next_record counters audits))
    × AreCounted (counted_to (next_record counters audits) counters) (audits ++ r ∷ []) more after
