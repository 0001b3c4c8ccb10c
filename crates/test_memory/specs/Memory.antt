-- The desk over a keeper in memory.
use Rattle.std.specs.Prelude.{◌≡◌, ℤ, List, ℕ, Option}
use Rattle.room_rows.specs.Content.{Content}
use Rattle.room_rows.specs.Meaning.{meaning}
use Rattle.room_memory.specs.Memory.{rows_in}
use Rattle.room_rows.specs.Rows.{AreRows, Rows}
use Rattle.room_memory.specs.declared.memory.MemKeep.{MemKeep}
use Rattle.room_rows.specs.Sound.{AreSound}
use Rattle.room_machine.specs.declared.reply.Reply.{Reply}
use Rattle.room_machine.specs.declared.request.Request.{Request}
use Rattle.room_machine.specs.Closed.{FailsClosed}
use Rattle.room_machine.specs.Step.{Step}

-- what the rows of the keeper mean
abbrev pub content_in : MemKeep → Content
content_in keep = meaning (rows_in keep).read

-- Its rows are sound, and meet what holds of every keeper's rows.
abbrev pub IsSoundKeep : MemKeep → Type 0
IsSoundKeep keep = AreSound (rows_in keep) × AreRows (rows_in keep)

-- A request leads from one keeper to another, if the first was sound.
pub record IsTried (user : Option (List ℕ)) (moment : ℤ) (request : Request) (old : MemKeep)
    (reply : Reply) (new : MemKeep) : Type 0 where
  pub step : Step (content_in old) user moment request reply (content_in new)
  pub sound : IsSoundKeep new

-- On any rows a request is judged by the stored lists, and the new rows are ones of a keeper too.
abbrev pub TriesClosed : Option (List ℕ) → ℤ → Request → MemKeep → Reply → MemKeep → Type 0
TriesClosed user moment request old reply new = AreRows (rows_in old)
    → FailsClosed user moment request (rows_in old) reply (rows_in new) × AreRows (rows_in new)

-- its rows meet what holds of every keeper's rows, sound or not
abbrev pub IsFormed : MemKeep → Type 0
IsFormed keep = AreRows (rows_in keep)

-- the keeper has these rows
abbrev pub HasRows : MemKeep → Rows → Type 0
HasRows keep rows = AreRows (rows_in keep) × (rows_in keep ≡ rows)

abbrev pub Tries : Option (List ℕ) → ℤ → Request → MemKeep → Reply → MemKeep → Type 0
Tries user moment request old reply new =
    IsSoundKeep old → IsTried user moment request old reply new
