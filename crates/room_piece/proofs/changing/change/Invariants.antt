use Rattle.std.proofs.Common.{take}
use Rattle.room_piece.specs.{Changing.IsDone, Holding.IsWell, InTurn.InTurn}
use Rattle.room_piece.proofs.changing.change.Given as goal

-- the first changes are done
abbrev pub invariant-changes : goal.invariant-changes
invariant-changes l = IsWell l.fn.piece.keep
    → InTurn (IsDone l.unread) (take l.one-index l.changes) l.fn.piece l.piece
