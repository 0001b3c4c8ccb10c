-- What a writer of rows has written.
use Rattle.std.specs.Prelude.{◌≡◌, ℕ, ◌++◌, false, List, Vec}
use Rattle.csv.specs.Writing.{default_writer, row_text, fields_written, has_written, writer_pending}
use Rattle.csv.specs.Writing.{writer_setup, writer_under}
use Rattle.csv.specs.declared.writer.Writer.{Writer}

-- the bytes that were written, and those that are still in the writer
abbrev pub written : {A : Type 0} → Writer (Vec ℕ A) → List ℕ
written writer = (writer_under writer).items ++ writer_pending writer

-- the next field is the first of a row
abbrev pub StandsAtRow : {A : Type 0} → Writer (Vec ℕ A) → Type 0
StandsAtRow writer =
    (writer_setup writer ≡ default_writer) × (fields_written writer ≡ 0)
    × (has_written writer ≡ false)

-- one more row is written
abbrev pub HasRow : {A : Type 0} → List (List ℕ) → Writer (Vec ℕ A) → Writer (Vec ℕ A) → Type 0
HasRow fields old new = written new ≡ written old ++ row_text default_writer fields
