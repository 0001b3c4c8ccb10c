-- The text of a table is read as its rows.
use Rattle.std.proofs.Common.{rules, ◌≡◌, ℕ, zero, suc, ◌+◌, ◌<◌, ◌≤◌, List, [], ◌∷◌, length, refl}
use Rattle.std.proofs.{Common.arith, lemmas.{List.length-append, Bool.Decides.nat_tests}}
use Rattle.std.specs.List.{AllByRecursion as Each}
use Rattle.csv.specs.{Machine.next_record, Reading.{default_config, records, records_from}}
use Rattle.csv.{specs.Writing.read_back, proofs.RoundTrip.read-write}
use Rattle.room_import.specs.Exports.{rows_text}
use Rattle.room_entry.proofs.Facts.Members.{each_weaker}
use Rattle.room_rows.specs.Content.{Content}
use Rattle.room_review.specs.{declared.question.Scope.Scope, LookedUp.IsRow}
use Rattle.csv.specs.declared.parser.State.TheVariants as st

-- a row has a column, so it is read as it was written
abbrev pub HasColumn : List (List ℕ) → Type 0
HasColumn row = read_back row ≡ row

-- a row takes a byte, so there are no more rows than bytes
fewer_rows : (rows : List (List (List ℕ))) → length rows < length (rows_text rows) + 1
fewer_rows [] = omega arith
fewer_rows (row ∷ rows) = grind (arith, nat_tests, length-append, fewer_rows rows)

all_read : (n : ℕ) (rows : List (List (List ℕ))) → length rows ≤ n → Each HasColumn rows
    → records_from default_config n st.StartRecord (rows_text rows) ≡ rows
unfolding records_from next_record
all_read zero [] most all = refl
all_read zero (row ∷ rows) most all = absurd (let wrong : ⊥ = omega (arith, most) in wrong)
all_read (suc n) [] most all = refl
all_read (suc n) (row ∷ rows) most all =
    let rest = all_read n rows (omega (arith, most)) all.1 in
    rw (read-write row (rows_text rows)) (λ i. all.0 i ∷ rest i)

pub read_as_rows : (rows : List (List (List ℕ))) → Each HasColumn rows
    → records default_config (rows_text rows) ≡ rows
read_as_rows rows all = search (rules, all_read, fewer_rows)

-- the rows of a table have columns
pub all_columns : (room : Content) (question : Scope) (whole table : List (List (List ℕ)))
    → Each (IsRow room question whole) table → Each HasColumn table
all_columns room question whole table all = grind (arith, nat_tests, each_weaker)
