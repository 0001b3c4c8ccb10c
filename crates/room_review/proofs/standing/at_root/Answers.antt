use Rattle.std.proofs.Common.{arith, [], refl}
use Rattle.room_review.proofs.Kept.{root_standing}
use Rattle.room_review.proofs.standing.at_root.Goals as goal

pub returns : goal.returns
returns c path =
    let caller = c.args.caller.now in
    let root = c.args.root.now in
    root_standing caller path root [] c.rule_all-ruled.result.allowed c.opens.result c.shares.result
    c.rule_all-ruled.result.denied refl
    (grind (arith, c.rule_all-ruled.ensures.allowed, caller, root.owners, c.full.ensures))
    (grind (arith, c.rule_all-ruled.ensures.denied, caller, root.owners, c.full.ensures))
    c.opens.ensures
    (grind (arith, c.shares.ensures, c.rule_all-ruled.result.denied, c.delete_child.ensures))
