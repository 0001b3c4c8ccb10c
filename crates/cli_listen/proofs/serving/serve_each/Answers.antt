use Rattle.std.{proofs.Common.{arith, inl, inr, refl, sym, ◌∙◌}, specs.Io.KnownBytes.Appends}
use Rattle.cli_outcome.specs.Written.{WritesSome}
use Rattle.cli_listen.proofs.Told.{fault_among}
use Rattle.cli_listen.proofs.{Receiving.{nobody, none, one_more, others}, Staying.{all_served, left_shut}}
use Rattle.cli_listen.proofs.Staying.{lines_then, missing, stays_on, untold}
use Rattle.cli_listen.proofs.serving.serve_each.Goals.{then-all_printed, else-all_printed}
use Rattle.cli_listen.proofs.serving.serve_each.Goals as goal

pub returns-in-Err-clause-served : goal.returns-in-Err-clause-served
returns-in-Err-clause-served g c =
    let one = c.connections.invariant in
    missing g.D.Desk g.met.D.Desk.laws c.connections.number c.args.count _ _ c.args.desk.now
    c.connections.desk one.received one.stays _ _ _ c.pass.new.desk c.in-Err.fault
    c.connections-test.true one.some c.in-Err.ensures.fault

pub returns-then-left-clause-served : goal.returns-then-left-clause-served
returns-then-left-clause-served g c =
    let one = c.connections.invariant in
    left_shut g.D.Desk g.met.D.Desk.laws c.connections.number c.args.count _ _ c.args.desk.now
    c.connections.desk one.received one.stays _ _ _ c.pass.new.desk c.in-Ok.left.lost
    c.in-Ok.left.shut _ c.connections-test.true one.some c.is_printed-printed.ensures.some
    c.in-Ok.ensures.received c.in-Ok.ensures.leaves c.if-left.true

pub connections-preserved : goal.connections-preserved
unfolding one_more others
connections-preserved g c =
    let one = c.connections.invariant in
    let printed = c.is_printed-printed.ensures in
    let n = c.connections.number in
    let next = c.in-Ok.ensures.received in
    let received =
    one_more g.D.Desk g.met.D.Desk.laws n _ _ _ c.args.desk.now c.connections.desk
    c.pass.new.desk _ one.received next in
    let some =
    lines_then g.D.Desk g.met.D.Desk.laws n c.args.count _ _ c.args.desk.now c.connections.desk
    one.received one.stays _ _ WritesSome _ c.pass.new.desk _ _ next one.some printed.some in
    let stays =
    stays_on g.D.Desk g.met.D.Desk.laws n c.args.desk.now c.connections.desk c.pass.new.desk
    c.in-Ok.left.shut one.stays c.in-Ok.ensures.leaves c.if-left.false in
    elim c.if-all_printed.branch [
      | then-all_printed w ↦ record {
        received = received;
        stays = stays;
        whole =
            λ is. lines_then g.D.Desk g.met.D.Desk.laws n c.args.count _ _ c.args.desk.now
            c.connections.desk one.received one.stays _ _ Appends _ c.pass.new.desk _ _ next
            (one.whole w.if-all_printed.true) (printed.whole (sym w.all_printed-is ∙ is));
        some = some;
        due = λ no. fault_among one.received.0.visits next.receives.visits next.visit _ next.only
            next.ended (inr (printed.due (sym w.all_printed-is ∙ no)));
      }
      | else-all_printed w ↦ record {
        received = received;
        stays = stays;
        whole = λ is. absurd (let e = sym w.all_printed-is ∙ is in cc);
        some = some;
        due = λ _. fault_among one.received.0.visits next.receives.visits next.visit _ next.only
            next.ended (inl (one.due w.if-all_printed.false));
      }
    ]

pub connections-init : goal.connections-init
unfolding none nobody
connections-init g c = record {
  received = none g.D.Desk g.met.D.Desk.laws _ c.args.desk.now;
  stays = refl;
  whole = λ _. refl;
  some = refl;
  due = λ no. absurd (let e = no in cc);
}

pub returns-then-all_printed-2-clause-served : goal.returns-then-all_printed-2-clause-served
returns-then-all_printed-2-clause-served g c =
    let one = c.connections.invariant in
    all_served g.D.Desk g.met.D.Desk.laws c.connections.number c.args.count _ _ c.args.desk.now
    c.connections.desk one.received one.stays _ _
    (omega (arith, c.connections.auto.number-end, c.connections-test.false))
    (one.whole c.if-all_printed-2.true)

pub returns-else-all_printed-2-clause-served : goal.returns-else-all_printed-2-clause-served
returns-else-all_printed-2-clause-served g c =
    let one = c.connections.invariant in
    untold g.D.Desk g.met.D.Desk.laws c.connections.number c.args.count _ _ c.args.desk.now
    c.connections.desk one.received one.stays _ _
    (omega (arith, c.connections.auto.number-end, c.connections-test.false)) one.some
    (one.due c.if-all_printed-2.false)
