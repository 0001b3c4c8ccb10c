-- The fields of a head by their names, and their values (own).
use Rattle.std.specs.Prelude.{ℕ, ◌==◌, ◌||◌, Bool, List, [], ◌∷◌, reverse, if◌then◌else◌}
use Rattle.std.specs.Str.{str_eq_ignore_ascii_case}
use Rattle.room_entry.specs.Bytes.{space, tab}
use Rattle.http_message.specs.declared.head.Field.{Field}

-- the values of the fields with this name, in any case
abbrev pub field_values : List ℕ → List Field → List (List ℕ)
field_values name [] = []
field_values name (field ∷ fields) =
    if str_eq_ignore_ascii_case field.name name then field.value ∷ field_values name fields
    else field_values name fields

-- a space or a tab
abbrev pub is_blank_byte : ℕ → Bool
is_blank_byte byte = byte == space || byte == tab

-- from the first byte that is no blank
abbrev pub without_blanks : List ℕ → List ℕ
without_blanks [] = []
without_blanks (byte ∷ bytes) = if is_blank_byte byte then without_blanks bytes else byte ∷ bytes

-- without the blanks at both ends
abbrev pub trimmed : List ℕ → List ℕ
trimmed bytes = reverse (without_blanks (reverse (without_blanks bytes)))
