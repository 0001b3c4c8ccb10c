use Rattle.std.proofs.Common.{◌≡◌, ◌∙◌, refl, sym, ap, subst}
use Rattle.room_rows.specs.{declared.node.NewNode.NewNode, Keep.{Addition, CanAdd, with_bytes}}
use Rattle.room_machine.specs.Changed.{child_node, new_child}
use Rattle.room_judge.{proofs.{Calls.{done, of_change}, UpTo.finish_up_to}, specs.Extent.unrecorded}
use Rattle.room_desk.{specs.Made.IsMade, proofs.Writes.Sufficing.{can_recorded, one_added}}
use Rattle.room_desk.proofs.making.add_child.Goals as goal

pub returns-clause-done : goal.returns-clause-done
returns-clause-done g c =
    let caller = c.args.ask.now.asker.now.caller in
    let parent = c.args.parent.now in
    let child = c.args.child.now in
    let bytes = c.as_slice.result.now in
    let new = with_bytes c.in_ok-node.node bytes in
    let is : new ≡ new_child caller child.kind parent child.name.now child.bytes.now =
    ap (λ (n : NewNode). with_bytes n bytes) c.in_ok-node.ensures
    ∙ ap (with_bytes (child_node caller child.kind parent child.name.now)) c.as_slice.ensures in
    finish_up_to g.met.K.Keep.laws _ (done (of_change c.in_ok-add.ensures.written
    (λ old id next more adds enough.
    let can = subst (λ (a : Addition). CanAdd a (unrecorded old)) (sym is) enough.0 in
    one_added new id old next more adds (can_recorded new old can) enough.1)))
    (λ old next are adds. (
      refl,
      subst (λ (a : Addition). IsMade a old next) is (c.in_ok-add.field-0, adds),
    ))
