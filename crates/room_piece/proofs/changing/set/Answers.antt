use Rattle.std.proofs.Common.{refl}
use Rattle.room_piece.proofs.Done.{set_done}
use Rattle.room_piece.proofs.changing.set.Goals as goal

pub returns-clause-done : goal.returns-clause-done
returns-clause-done c =
    set_done c.mark_set.result c.args.piece.now _ _ c.args.setting.now c.in_ok-set_in.ensures.can
    c.in_ok-set_in.ensures.means c.in_ok-set_in.ensures.well refl c.mark_set.ensures.marks
