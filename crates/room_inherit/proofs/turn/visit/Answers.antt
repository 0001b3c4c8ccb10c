use Rattle.std.proofs.Common.{◌≡◌, false, List, subst}
use Rattle.room_rows.specs.{declared.node.Node.Node, HeldList.Held}
use Rattle.room_inherit.{specs.Turn.{IsPassed, RenewsAll, meets_again}, proofs.Calls.visited}
use Rattle.room_inherit.proofs.turn.visit.Goals as goal

pub returns-clause-visit : goal.returns-clause-visit
returns-clause-visit g c =
    let d = c.args.descent.now in
    let above = c.args.above.now in
    let children = c.in_ok-children.children in
    let apart : meets_again d.which d.start above children ≡ false = cc in
    let passed = subst (λ (h : Held). IsPassed h c.in_ok-passed.passed) c.held.ensures
    c.in_ok-passed.ensures in
    visited g.K.Keep g.met.K.Keep.laws d above children c.args.waiting.now.items
    c.renew_all.new.waiting.items c.renew_all.result c.args.keep.now c.children.new.self
    c.renew_all.new.keep c.in_ok-children.ensures.read apart
    (subst
    (λ (l : List Node). RenewsAll g.K.Keep c.children.new.self c.renew_all.new.keep d above l
    c.args.waiting.now.items c.renew_all.new.waiting.items c.renew_all.result) c.into_vec.ensures
    (c.renew_all.ensures.renewed above passed))
