-- What the counter of records says, once records were added.
use Rattle.std.specs.Prelude.{◌≡◌, ◌≤ℤ◌, ◌+ℤ◌, ℤ, pos, List, [], ◌∷◌, find, length}
use Rattle.sqlite_trees.specs.View.{IsShaped}
use Rattle.sqlite_trees.specs.declared.store.Shape.TheVariants.{Table}
use Rattle.sqlite.specs.Edit.{next_rowid}
use Rattle.sqlite.specs.Order.{Row}
use Rattle.sqlite.specs.Rows.{count_of}
use Rattle.sqlite.specs.Tree.{rowid}
use Rattle.sqlite_rules.specs.Edit.{id_in}
use Rattle.store_tables.specs.Counters.{AreCounted, counts_records}

-- the number at which the counter of records is
abbrev pub count_in : List Row → ℤ
count_in counters = count_of (find counts_records counters)

-- the number of the last of these records, and without any this one
abbrev pub last_number : ℤ → List Row → ℤ
last_number number [] = number
last_number number (r ∷ more) = last_number (id_in (rowid r)) more

-- Where the counters stand in order of number, that of the records is at the last that was added,
-- and as it was if none was.
abbrev pub CounterFollows : Type 0
CounterFollows = (counters audits more after : List Row) → IsShaped Table counters
    → AreCounted counters audits more after
    → count_in after ≡ last_number (count_in counters) more

-- The same where it isn't below the last record's number: then each record takes one number.
abbrev pub RecordsTakeOneEach : Type 0
RecordsTakeOneEach = (counters audits more after : List Row) → IsShaped Table counters
    → next_rowid audits ≤ℤ (count_in counters +ℤ pos 1) → AreCounted counters audits more after
    → count_in after ≡ count_in counters +ℤ pos (length more)
