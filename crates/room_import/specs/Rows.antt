-- The rows that a reader has left, and what the next of them is.
use Rattle.std.specs.Prelude.{◌≡◌, ◌⊎◌, ℕ, ◌+◌, ◌≤◌, true, false, List, [], ◌∷◌, length, Option}
use Rattle.std.specs.Prelude.{Some, None, Result, Ok, Err, if◌then◌else◌}
use Rattle.std.specs.List.{list_all}
use Rattle.std.specs.Borrow.{Bor}
use Rattle.csv.specs.Reading.{Ready, default_config, is_flexible, records_from, reader_config}
use Rattle.csv.specs.Reading.{reader_state, reader_trim, source_of}
use Rattle.csv.specs.declared.parser.State.{State}
use Rattle.csv.specs.declared.parser.State.TheVariants as st
use Rattle.csv.specs.declared.reader.Reader.{Reader}
use Rattle.csv.specs.declared.reader.Trim.TheVariants as trim
use Rattle.room_entry.specs.Utf8.{is_utf8}
use Rattle.room_entry.specs.Names.{is_name}
use Rattle.room_entry.specs.declared.failure.Failure.{Failure}
use Rattle.room_entry.specs.declared.failure.Failure.TheVariants.{OutOfMemory, Fault}
use Rattle.room_import.specs.declared.fault.CsvFault.{CsvFault}
use Rattle.room_import.specs.declared.fault.CsvWhy.TheVariants.{BadName}
use Rattle.room_import.specs.declared.rows.NextRow.{NextRow}
use Rattle.room_import.specs.declared.rows.NextRow.TheVariants.{End, NotText, Text}
use Rattle.room_import.specs.Groups.{fault_at, pairs_after, pairs_of_rows, with_pair}

-- a reader of bytes in memory
abbrev pub ByteReader : Type 0
ByteReader = Reader (Bor (List ℕ))

-- the bytes that it hasn't read
abbrev pub unread : ByteReader → Option (List ℕ)
unread reader = source_of (λ bytes. Some bytes.now) reader

abbrev pub rows_from : State → Option (List ℕ) → List (List (List ℕ))
rows_from state None = []
rows_from state (Some bytes) = records_from default_config (length bytes + 1) state bytes

-- the rows that are still to come
abbrev pub rows_left : ByteReader → List (List (List ℕ))
rows_left reader = rows_from (reader_state reader) (unread reader)

-- a state between two records
abbrev pub IsBetween : State → Type 0
IsBetween state = (state ≡ st.StartRecord) ⊎ (state ≡ st.AfterCr)

-- the reader answers the next row as it stands in the text
abbrev pub ReadsNextRow : ByteReader → Type 0
ReadsNextRow reader =
    (reader_trim reader ≡ trim.None) × Ready reader × (reader_config reader ≡ default_config)
    × IsBetween (reader_state reader)
    × (is_flexible reader ≡ true) × (bytes : List ℕ) × (unread reader ≡ Some bytes)

-- what was found of the rows before, and the rows after it
abbrev pub ReadsRow : ByteReader → ByteReader → List (List ℕ) → NextRow → Type 0
ReadsRow before after fields End = rows_left before ≡ []
ReadsRow before after fields NotText =
    (row : List (List ℕ)) × (rest : List (List (List ℕ))) × (rows_left before ≡ row ∷ rest)
    × (list_all is_utf8 row ≡ false)
ReadsRow before after fields Text =
    (rows_left before ≡ fields ∷ rows_left after) × (list_all is_utf8 fields ≡ true)
    × ReadsNextRow after

-- the two fields of a row that has two
abbrev pub two_of : List (List ℕ) → Option (List ℕ × List ℕ)
two_of (group ∷ user ∷ []) = Some (group, user)
two_of _ = None

-- the name that a field of the row of this number is
abbrev pub named : ℕ → List ℕ → Result (List ℕ) CsvFault
named number field = if is_name field then Ok field else fault_at number BadName

-- what reading the header means for the pairs of all rows
abbrev pub HeaderTaken : ByteReader → ByteReader → Result (Unit {0}) (Failure CsvFault) → Type 0
HeaderTaken before after (Ok done) =
    (pairs_of_rows (rows_left before) ≡ pairs_after [] 2 (rows_left after)) × ReadsNextRow after
HeaderTaken before after (Err OutOfMemory) = Unit {0}
HeaderTaken before after (Err (Fault fault)) = pairs_of_rows (rows_left before) ≡ Err fault

-- what reading the row of this number means for the pairs of the rows from it on
abbrev pub PairTaken : ℕ → ByteReader → ByteReader
    → Result (Option (List ℕ × List ℕ)) (Failure CsvFault)
    → Type 0
PairTaken number before after (Ok None) = rows_left before ≡ []
PairTaken number before after (Ok (Some pair)) =
    (number ≤ 20001) × ReadsNextRow after
    × ((pairs : List (List ℕ × List ℕ))
    → pairs_after pairs number (rows_left before)
    ≡ pairs_after (with_pair pairs pair) (number + 1) (rows_left after))
PairTaken number before after (Err OutOfMemory) = Unit {0}
PairTaken number before after (Err (Fault fault)) =
    (pairs : List (List ℕ × List ℕ)) → pairs_after pairs number (rows_left before) ≡ Err fault
