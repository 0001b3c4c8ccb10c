use Rattle.std.proofs.Common.{◌≡◌, [], length, take, ap, ◌∙◌, arith}
use Rattle.std.proofs.lemmas.List.{length-map, take_all}
use Rattle.room_machine.specs.Site.{Site}
use Rattle.room_turns.{specs.Stands.along, proofs.Way.{along_next, last_along}}
use Rattle.room_turns.proofs.walking.spots_along.Goals as goal

pub nodes-preserved : goal.nodes-preserved
nodes-preserved c view sites shows on =
    let parties = c.args.asked.now.parties.items in
    let i = c.nodes.node-index in
    let sofar = c.nodes.invariant view sites shows on in
    c.in_ok-push.ensures.items
    ∙ along_next view parties c.args.above.now sites i c.node-item.result c.nodes.way.items
    c.in_ok-spot.spot on c.nodes-test.true c.node-item.is sofar
    (λ path. c.in_ok-spot.ensures view (take i sites) path shows
    (c.last.ensures.value
    ∙ last_along view parties (take i sites) c.deref.result.now (c.deref.ensures.value ∙ sofar)))

pub returns : goal.returns
returns c view sites shows on =
    let many : length c.args.above.now ≡ length sites =
    ap length on.0 ∙ length-map sites (λ (s : Site). s.node) in
    c.nodes.invariant view sites shows on
    ∙ ap (along view c.args.asked.now.parties.items [])
    (take_all c.nodes.node-index sites (omega (arith, many, c.nodes-test.false)))
