-- Whether a message asks that the connection ends (own).
use Rattle.std.specs.Prelude.{ℕ, ◌==◌, ◌&&◌, ◌||◌, Bool, List, codes}
use Rattle.std.specs.List.{list_any}
use Rattle.std.specs.Str.{str_eq_ignore_ascii_case}
use Rattle.room_entry.specs.Bytes.{comma}
use Rattle.room_entry.specs.Pieces.{pieces}
use Rattle.http_message.specs.declared.head.Field.{Field}
use Rattle.http_message.specs.declared.head.Head.{Head}
use Rattle.http_message.specs.Fields.{trimmed}

-- the token `close`, in any case, perhaps with blanks around it
abbrev pub is_close : List ℕ → Bool
is_close token = str_eq_ignore_ascii_case (trimmed token) (codes "close")

-- tokens stand between commas
abbrev pub lists_close : Field → Bool
lists_close field =
    str_eq_ignore_ascii_case field.name (codes "connection")
    && list_any is_close (pieces comma field.value)

-- A message of version 1.0 asks for it, and one with a field Connection that lists the token.
abbrev pub asks_close : Head → Bool
asks_close head = head.minor == 0 || list_any lists_close head.fields
