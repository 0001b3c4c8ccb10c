use Rattle.std.proofs.{Common.rules, lemmas.List.append-nil}
use Rattle.room_inherit.proofs.Gathered.{one_gathered}
use Rattle.room_inherit.proofs.turn.gather_next.Goals as goal

pub returns-else-waits-clause-gathered : goal.returns-else-waits-clause-gathered
returns-else-waits-clause-gathered g c = λ above is.
    let d = c.args.descent.now in
    let child = c.args.child in
    let before = c.args.waiting.now.items in
    let stale = c.is_outdated-renews.ensures above is in
    one_gathered g.K.Keep d above child before before c.args.outdated.now
    c.look_at.new.outdated c.args.keep.now c.look_at.new.keep c.in_ok-waits.waits
    (c.in_ok-waits.ensures.asked d.which above stale)
    (c.in_ok-waits.ensures.added d.which above stale) (search (rules, append-nil, c.if-waits.false))
