use Rattle.std.{proofs.Common.{arith, [], ◌∷◌, None, refl, sym, ◌∙◌}, specs.Prelude.is_some}
use Rattle.room_entry.specs.Rights.{append_data}
use Rattle.room_machine.specs.{declared.reply.Reason.TheVariants.Exists, Changed.new_child}
use Rattle.room_judge.{specs.{Halted.replied, Stored.found_site}, proofs.Calls.done}
use Rattle.room_judge.proofs.{Judging.blames_first, UpTo.tail_provided}
use Rattle.room_desk.proofs.Made.ServedItems.{added_behind}
use Rattle.room_desk.proofs.making.make_new.Goals as goal

pub returns-clause-done : goal.returns-clause-done
returns-clause-done g c =
    let asker = c.args.ask.now.asker.now in
    let path = c.args.ask.now.path.now in
    let folder = c.args.spot.now.folder in
    let child = c.args.child.now in
    tail_provided g.met.K.Keep.laws (done c.in_ok-check.ensures.done) c.add_child.ensures.done
    (λ old mid at are judged h. blames_first asker _ _ old mid at judged h)
    (λ old mid outcome new are judged made.
    added_behind asker (found_site path folder) c.append_data.result (append_data ∷ []) path Exists
    (is_some c.args.spot.now.child)
    (new_child asker.caller child.kind folder.node child.name.now child.bytes.now) old mid new None
    (replied outcome) c.append_data.ensures refl
    (sym c.is_some-is_there.ensures ∙ c.if-is_there.false) judged made)
    (grind (arith, c.is_some-is_there.ensures, c.if-is_there.false))
