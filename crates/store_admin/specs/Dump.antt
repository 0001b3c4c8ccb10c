-- What the text of a room is, by its tables.
use Rattle.std.specs.Prelude.{◌≡◌, ℕ, List, ◌++◌, String, string_bytes}
use Rattle.std.specs.Global.{Global}
use Rattle.sqlite.specs.Effect.{Database}
use Rattle.room_rows.specs.Rooted.{HasRoot}
use Rattle.room_dump.specs.Dump.{HasAllBytes, IsDumpText, room_text}
use Rattle.room_dump.specs.Members.{members_text}
use Rattle.store_tables.specs.Meaning.{rows_of}

-- The text of the room that the tables hold: all objects, and after them all pairs. There is a
-- root, and each document has bytes.
abbrev pub IsDump : Database → String Global → Type 0
IsDump db text = (string_bytes text ≡ room_text (rows_of db)) × HasAllBytes (rows_of db)
    × HasRoot (rows_of db)

-- ---- the two parts of the text

-- the text of all objects, and the rows are as they were
abbrev pub TellsObjects : Database → String Global → Database → Type 0
TellsObjects old text new =
    IsDumpText (rows_of old) (string_bytes text) × (rows_of new ≡ rows_of old)

-- the lines of the pairs are added after the text
abbrev pub AddsMembers : List ℕ → List ℕ → Database → Unit {0} → Type 0
AddsMembers text more db answer = more ≡ text ++ members_text (rows_of db).read.members
