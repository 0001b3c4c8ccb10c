use Rattle.std.proofs.Common.{take}
use Rattle.room_piece.specs.{Coming.HasCome, Holding.IsWell, InTurn.InTurn}
use Rattle.room_piece.proofs.building.come_all.Given as goal

-- the first objects have come
abbrev pub invariant-objects : goal.invariant-objects
invariant-objects l = IsWell l.fn.piece.keep
    → InTurn (HasCome l.unread) (take l.object-index l.objects) l.fn.piece l.piece
