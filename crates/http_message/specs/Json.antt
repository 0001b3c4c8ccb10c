-- The texts in a JSON body, by `serde_json`'s definitions.
use Rattle.std.specs.Prelude.{ℕ, List, Option, None, option_and_then, if◌then◌else◌}
use Rattle.room_entry.specs.Utf8.{is_utf8}
use Rattle.serde_json.specs.Data.{Data}
use Rattle.serde_json.specs.Read.{read}
use Rattle.serde_json.specs.Find.{get, as_str}

-- the value that the bytes are
unfoldable pub json_of : List ℕ → Option Data
json_of body = if is_utf8 body then read body else None

-- the text under a key of an object
abbrev pub text_under : List ℕ → Option Data → Option (List ℕ)
text_under key value = option_and_then as_str (option_and_then (get key) value)
