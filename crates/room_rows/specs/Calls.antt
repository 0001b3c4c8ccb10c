-- What a call of a keeper promises, with the keeper named once.
use Rattle.std.specs.Prelude.{ℕ, Result}
use Rattle.room_rows.specs.declared.keep.Keep.{Ghosts}
use Rattle.room_rows.specs.declared.keep.KeepFault.{KeepFault}
use Rattle.room_rows.specs.Keep.{IsRead, IsWrite, IsWriteOf}
use Rattle.room_rows.specs.Rows.{Rows}

module _ {S : Type 0} (k : Ghosts S) {X : Type 0} (old new : S) (result : Result X KeepFault) where
  -- The call reads, and its answer is what the rows say.
  abbrev pub Reads : (Rows → ℕ → Type 0) → (Rows → X → Type 0) → Type 0
  Reads Blames Answers =
      IsRead k.rows k.failures k.writes k.Follows k.IsTrusted old new result Blames Answers

  -- The call writes, and leaves the rows that the relation allows.
  abbrev pub Writes : (Rows → ℕ → Type 0) → (Rows → X → Rows → Type 0) → Type 0
  Writes Blames Becomes =
      IsWrite k.rows k.failures k.writes k.Follows k.IsTrusted old new result Blames Becomes

  -- The call writes so many objects, and leaves the rows that the relation allows.
  abbrev pub WritesOf : ℕ → (Rows → ℕ → Type 0) → (Rows → X → Rows → Type 0) → Type 0
  WritesOf count Blames Becomes =
      IsWriteOf k.rows k.failures k.writes k.Follows k.IsTrusted count old new result
      Blames Becomes
