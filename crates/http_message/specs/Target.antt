-- The target of a message (own).
use Rattle.std.specs.Prelude.{ℕ, ◌+◌, ◌==◌, ◌&&◌, Bool, List, ◌∷◌, length, drop, nat_eq, codes}
use Rattle.std.specs.List.{starts_with, before_first, after_first}
use Rattle.percent_encoding.specs.Percent.{percent_decode}
use Rattle.room_entry.specs.Bytes.{question_mark, slash}
use Rattle.room_entry.specs.Utf8.{is_utf8}
use Rattle.http_message.specs.declared.route.Route.{Route}
use Rattle.http_message.specs.Route.{route_text}

-- it begins with a slash and is text
abbrev pub is_target : List ℕ → Bool
is_target target = starts_with nat_eq target (codes "/") && is_utf8 target

abbrev pub is_mark : ℕ → Bool
is_mark byte = byte == question_mark

-- what stands before the first question mark, or all
abbrev pub path_part : List ℕ → List ℕ
path_part target = before_first is_mark target

-- what stands after it, or nothing
abbrev pub query_part : List ℕ → List ℕ
query_part target = after_first is_mark target

-- the bytes of the path that a target names: a slash, and what stands after /W/, decoded
abbrev pub named_path : Route → List ℕ → List ℕ
named_path route path = slash ∷ percent_decode (drop (length (route_text route) + 2) path)
