-- The lines of a question, each with the lines that stand below it and belong to it (own).
use Rattle.std.specs.Prelude.{ℕ, ◌+◌, ◌==◌, ◌||◌, Bool, false, List, [], ◌∷◌, codes}
use Rattle.std.specs.Prelude.{if◌then◌else◌, nat_eq}
use Rattle.std.specs.List.{starts_with}
use Rattle.room_entry.specs.Bytes.{colon}
use Rattle.room_entry.specs.Pieces.{same_text}

-- a letter and a colon, as at the beginning of an entry
abbrev pub begins_as_entry : List ℕ → Bool
begins_as_entry (kind ∷ byte ∷ rest) = byte == colon
begins_as_entry _ = false

-- A line that belongs to the one above it: of a list's text, a word in its place, or where an
-- object is moved to.
abbrev pub belongs_above : List ℕ → Bool
belongs_above line =
    begins_as_entry line || starts_with nat_eq line (codes "list:")
    || same_text line (codes "follows") || same_text line (codes "unread")
    || starts_with nat_eq line (codes "to ")

-- a line, its number, and the lines below it that belong to it
pub record Item : Type 0 where
  pub number : ℕ
  pub line : List ℕ
  pub below : List (List ℕ)

-- Of lines whose first has this number: those at the front that belong to one above, and the items
-- behind them.
abbrev pub cut_items : ℕ → List (List ℕ) → List (List ℕ) × List Item
cut_items number [] = ([], [])
cut_items number (line ∷ lines) =
    let behind = cut_items (number + 1) lines in
    if belongs_above line then (line ∷ behind.0, behind.1)
    else ([], record { number = number; line = line; below = behind.0 } ∷ behind.1)

-- The items of lines whose first has this number. The first line begins an item, whatever it is.
abbrev pub items_from : ℕ → List (List ℕ) → List Item
items_from number [] = []
items_from number (line ∷ lines) =
    let behind = cut_items (number + 1) lines in
    record { number = number; line = line; below = behind.0 } ∷ behind.1
