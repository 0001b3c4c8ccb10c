use Rattle.std.proofs.Common.{arith, Bool, ap, ◌∙◌}
use Rattle.room_review.{specs.declared.standing.Standing.Standing, proofs.Kept.open_standing}
use Rattle.room_review.proofs.standing.reached.Goals as goal

pub returns : goal.returns
returns c above site path last is free =
    let caller = c.args.caller.now in
    let node = c.args.node.now in
    let repeating : Bool → Standing = λ r. record {
      rights = c.rule_all-ruled.result.allowed;
      remove = c.gives_up-remove.result;
      opens = c.opens.result;
      keeps = c.shares.result;
      repeats = r;
    } in
    ap repeating c.grants.ensures
    ∙ open_standing caller path node above site last c.args.folder.now is
    c.rule_all-ruled.result.allowed c.rule_all-ruled.result.denied c.gives_up-remove.result
    c.opens.result c.shares.result free
    (grind (arith, c.rule_all-ruled.ensures.allowed, caller, node.owners, c.full.ensures))
    (grind (arith, c.rule_all-ruled.ensures.denied, caller, node.owners, c.full.ensures))
    c.gives_up-remove.ensures c.opens.ensures
    (grind (arith, c.shares.ensures, c.rule_all-ruled.result.denied, c.delete_child.ensures))
