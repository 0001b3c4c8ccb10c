use Rattle.std.proofs.Common.{take, ◌∙◌}
use Rattle.room_review.proofs.Above.{along_next}
use Rattle.room_review.proofs.telling.standings_along.Goals as goal

pub nodes-preserved : goal.nodes-preserved
nodes-preserved c sites on =
    let i = c.nodes.node-index in
    c.in_ok-push.ensures.items
    ∙ along_next c.args.asked.now.parties.items c.args.above.now sites i c.node-item.result
    c.nodes.way.items c.in_ok-here.here on c.nodes-test.true c.node-item.is
    (c.nodes.invariant sites on)
    (λ path. c.in_ok-here.ensures (take i sites) path
    (c.as_slice.ensures.value ∙ c.nodes.invariant sites on))
