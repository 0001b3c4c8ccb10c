use Rattle.std.proofs.Common.{refl}
use Rattle.room_piece.proofs.Done.{move_done}
use Rattle.room_piece.proofs.changing.relocate.Goals as goal

pub returns-clause-done : goal.returns-clause-done
returns-clause-done c =
    move_done c.move_in.result c.args.piece.now _ _ c.args.moving.now
    c.in_ok-mark_moving.ensures.marks refl c.move_in.ensures.can c.move_in.ensures.means
    c.move_in.ensures.well
