-- Which bytes are UTF-8.
use Rattle.std.specs.Prelude.{ℕ, ◌==◌, ◌||◌, Bool, List, length, nat_lt}
use Rattle.std.specs.List.{list_all}
use Rattle.std.specs.Str.Lossy.{utf8_valid_len}

-- the longest front that is UTF-8 is all of it, as where each byte is ASCII
abbrev pub is_utf8 : List ℕ → Bool
is_utf8 bytes = list_all (λ byte. nat_lt byte 128) bytes || utf8_valid_len bytes == length bytes
