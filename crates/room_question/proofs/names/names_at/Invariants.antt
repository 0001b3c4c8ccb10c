use Rattle.std.{proofs.Common.{◌≡◌, ◌++◌, length, true}, specs.List.list_all}
use Rattle.room_entry.specs.{Names.is_name, Pieces.pieces}
use Rattle.room_question.proofs.names.names_at.Given as goal

-- the names so far, and what is left to read
abbrev pub invariant-parts : goal.invariant-parts
invariant-parts l = (list_all is_name l.names ≡ true)
    × (pieces 44 l.bytes ≡ l.names ++ pieces 44 l.rest)

abbrev pub decreases-parts : goal.decreases-parts
decreases-parts l = length l.rest
