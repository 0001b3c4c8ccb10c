use Rattle.std.proofs.Common.{◌≡◌, ◌++◌, drop, string_bytes}
use Rattle.room_rows.{specs.Paths.path_text, proofs.Cutting.joined}
use Rattle.room_rows.proofs.path.text_of.Given as goal

-- the text so far, and then that of what is left
abbrev pub invariant-loop-name : goal.invariant-loop-name
invariant-loop-name l =
    string_bytes l.text ++ joined (drop l.name-index l.names) ≡ path_text l.names
