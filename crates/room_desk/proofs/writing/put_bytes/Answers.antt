use Rattle.std.proofs.{Common.{arith, subst, length, take}, Math.Seq.take-length}
use Rattle.std.proofs.lemmas.Bool.{lt-ltb, le-ltb}
use Rattle.room_rows.specs.{Rows.Rows, Keep.IsUnreadable}
use Rattle.room_machine.specs.declared.reply.Reply.TheVariants.{Refused}
use Rattle.room_machine.specs.declared.reply.Reason.TheVariants.{TooLarge}
use Rattle.room_judge.proofs.{Calls.{done, none_done, of_change, of_write}, Halts.faults}
use Rattle.room_judge.proofs.{Halts.refused_as, UpTo.finish_up_to}
use Rattle.room_desk.proofs.{Bytes.Appending.{put_refused, put_set}, Writes.Sufficing.one_put}
use Rattle.room_desk.proofs.writing.put_bytes.Goals as goal

pub returns-then-too_many-clause-done : goal.returns-then-too_many-clause-done
returns-then-too_many-clause-done g c =
    let m = g.met.K.Keep in
    let path = c.args.ask.now.path.now in
    refused_as m.laws (none_done m.laws c.args.keep.now) c.refusal.result
    (Refused (take (length c.names.result.now) path) TooLarge) c.refusal.ensures
    (grind (arith, put_refused, path, lt-ltb, c.if-too_many.true, c.names.ensures, take-length))

pub returns-in_err-set_body-clause-done : goal.returns-in_err-set_body-clause-done
returns-in_err-set_body-clause-done g c =
    let m = g.met.K.Keep in
    faults m.laws (none_done m.laws c.args.keep.now) (of_write c.in_err-set_body.ensures.written)
    (λ old mid at are same h. subst (λ (r : Rows). IsUnreadable r at) same h)
    c.from_residual.result c.from_residual.ensures.1

pub returns-clause-done : goal.returns-clause-done
returns-clause-done g c =
    finish_up_to g.met.K.Keep.laws _ (done (of_change c.in_ok-set_body.ensures.written
    (grind (arith, one_put))))
    (grind (arith, put_set, le-ltb, c.if-too_many.false))
