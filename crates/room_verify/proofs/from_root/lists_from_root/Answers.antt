use Rattle.std.proofs.Common.{arith, ap, ◌∙◌}
use Rattle.room_rows.specs.Full.{full_under}
use Rattle.room_inherit.proofs.Chain.{fulls-after, fulls_after_next}
use Rattle.room_verify.proofs.from_root.lists_from_root.Goals as goal

pub loop-node-init : goal.loop-node-init
loop-node-init c = grind (arith, c.new-lists.ensures.items, c.new-inherited.ensures, fulls-after)

pub loop-node-preserved : goal.loop-node-preserved
loop-node-preserved c =
    fulls_after_next c.args.which c.loop-node.above.auto _ c.loop-node.inherited c.in_ok-full.full _
    c.args.chain.now c.loop-node.node-index c.node-item.result c.loop-node.lists.items _
    c.loop-node-test.true c.node-item.is
    c.in_ok-push.ensures.items
    (c.in_ok-full.ensures
    ∙ ap (λ a. full_under c.args.which c.loop-node.above.auto a c.node-item.result)
    c.as_slice.ensures) c.in_ok-inherited.ensures
    (ap (λ f. f.auto) c.flags-above.ensures ∙ ap (λ h. h.flags.auto) c.held.ensures)
    ∙ c.loop-node.invariant
