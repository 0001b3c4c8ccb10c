use Rattle.std.proofs.Common.{ap}
use Rattle.room_machine.specs.declared.reply.Reply.{Reply}
use Rattle.room_rows.specs.Content.{Content}
use Rattle.room_piece.proofs.Done.{moved_ok, unrefused_ok}
use Rattle.room_piece.proofs.changing.move_in.Goals as goal

pub returns-in-Ok-clause-can : goal.returns-in-Ok-clause-can
returns-in-Ok-clause-can c =
    unrefused_ok c.judged.result _ _ _ (λ well. ap (λ (p : Reply × Content). p.0)
    (c.in-Ok.ensures.done.becomes well.rows well.sound).step) c.judged.ensures.done

pub returns-in-Ok-clause-means : goal.returns-in-Ok-clause-means
returns-in-Ok-clause-means c =
    moved_ok c.judged.result _ _ _ _ c.args.moving.now.path c.args.moving.now.to
    (λ well. c.in-Ok.ensures.done.becomes well.rows well.sound) c.judged.ensures.done
