use Rattle.std.{proofs.Common.{◌≡◌, ◌++◌, length, true}, specs.List.list_all}
use Rattle.room_entry.specs.{Names.is_name, Pieces.pieces}
use Rattle.cli_check.proofs.headers.checked_names.Given as goal

-- the names so far, and what is left to read
abbrev pub invariant-loop-part : goal.invariant-loop-part
invariant-loop-part l = (list_all is_name l.names ≡ true)
    × (pieces 44 l.value ≡ l.names ++ pieces 44 l.rest)

abbrev pub decreases-loop-part : goal.decreases-loop-part
decreases-loop-part l = length l.rest
