-- The text of entries in a column: a line for each, and no list line.
use Rattle.std.specs.Prelude.{ℕ, ◌||◌, List, [], ◌∷◌, ◌++◌, Option, Some, None, Result, Ok, Err}
use Rattle.std.specs.Prelude.{option_and_then, if◌then◌else◌}
use Rattle.room_entry.specs.Ace.{Ace}
use Rattle.room_ace.specs.Text.{entry_of}
use Rattle.room_ace.specs.Lists.{is_blank, is_comment, lines_of}
use Rattle.room_entry.specs.Utf8.{is_utf8}

abbrev pub some_of : {A F : Type 0} → Result A F → Option A
some_of (Ok value) = Some value
some_of (Err fault) = None

abbrev pub entry_in : List ℕ → Option Ace
entry_in line = if is_utf8 line then some_of (entry_of line) else None

-- the entries before, and those of the lines, where each but blanks and comments spells one
abbrev pub entries_behind : List Ace → List (List ℕ) → Option (List Ace)
entries_behind before [] = Some before
entries_behind before (line ∷ lines) =
    if is_blank line || is_comment line then entries_behind before lines else
    option_and_then (λ entry. entries_behind (before ++ entry ∷ []) lines) (entry_in line)

abbrev pub entries_of : List ℕ → Option (List Ace)
entries_of bytes = entries_behind [] (lines_of bytes)
