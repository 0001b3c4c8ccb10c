-- How much calls write beside records.
use Rattle.std.specs.Prelude.{◌≡◌, ℕ, ◌+◌, ◌≤◌, [], Option, Some, None, length}
use Rattle.room_rows.specs.Keep.{with_content}
use Rattle.room_rows.specs.Rows.{Rows}
use Rattle.room_machine.specs.declared.reply.Reply.{Reply}

-- the rows without their records
abbrev pub unrecorded : Rows → Rows
unrecorded rows = with_content rows (record rows.read { audits = [] })

-- Nothing is written but records, and nothing else is changed. Or, unless a denial or a refusal is
-- told, so many writes beside records suffice as the relation says of the rows before and after,
-- without their records.
pub data Extent : Type 1 where
  OnlyRecords : Extent
  Unless : Option Reply → (Rows → Rows → ℕ → Type 0) → Extent

abbrev pub UpTo : (Rows → Rows → ℕ → Type 0) → Extent
UpTo Suffices = Unless None Suffices

-- no number is said to suffice
abbrev pub Unsaid : Rows → Rows → ℕ → Type 0
Unsaid old new more = ⊥

module _ {S : Type 0} (rows : S → Rows) (writes : S → ℕ) where
  -- No more was written than records were added, and this many writes. A keeper's count of writes
  -- has an end, so it may also be less.
  abbrev pub WritesUpTo : ℕ → S → S → Type 0
  WritesUpTo more old new =
      writes new + length (rows old).read.audits
      ≤ writes old + length (rows new).read.audits + more

  abbrev pub WritesRecords : S → S → Type 0
  WritesRecords old new =
      (unrecorded (rows new) ≡ unrecorded (rows old)) × WritesUpTo 0 old new

  abbrev pub StaysWithin : Extent → S → S → Type 0
  StaysWithin OnlyRecords old new = WritesRecords old new
  StaysWithin (Unless (Some failure) Suffices) old new = WritesRecords old new
  StaysWithin (Unless None Suffices) old new =
      (more : ℕ) → Suffices (unrecorded (rows old)) (unrecorded (rows new)) more
      → WritesUpTo more old new
