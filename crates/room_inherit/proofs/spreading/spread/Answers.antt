use Rattle.std.proofs.Common.{Ok, Option, subst}
use Rattle.room_rows.specs.{Keep.{IsNodeAt, IsRead, IsUnreadableAt}, declared.node.Node.Node}
use Rattle.room_inherit.proofs.Carrying.{spreads_nowhere, spreads_there}
use Rattle.room_inherit.proofs.spreading.spread.Goals as goal

pub returns-in-None-clause-spread : goal.returns-in-None-clause-spread
returns-in-None-clause-spread g c =
    let k = g.K.Keep in
    let a = c.args.keep.now in
    let b = c.node.new.self in
    let found = subst
    (λ (o : Option Node). IsRead k.rows k.failures k.writes k.Follows k.IsTrusted a b (Ok o)
    (IsUnreadableAt c.args.id) (IsNodeAt c.args.id)) c.in-None.is c.in_ok-node.ensures.read in
    spreads_nowhere k g.met.K.Keep.laws c.args.which c.args.id a b found

pub returns-in-Some-clause-spread : goal.returns-in-Some-clause-spread
returns-in-Some-clause-spread g c =
    let k = g.K.Keep in
    let a = c.args.keep.now in
    let b = c.node.new.self in
    let found = subst
    (λ (o : Option Node). IsRead k.rows k.failures k.writes k.Follows k.IsTrusted a b (Ok o)
    (IsUnreadableAt c.args.id) (IsNodeAt c.args.id)) c.in-Some.is c.in_ok-node.ensures.read in
    spreads_there k g.met.K.Keep.laws c.args.which c.in-Some.start a b c.spread_from.new.keep
    c.args.id c.spread_from.result found c.spread_from.ensures.spread
