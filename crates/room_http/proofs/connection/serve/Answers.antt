use Rattle.std.proofs.{Common.{refl, sym, subst, ℤ, w64}, lemmas.Int.to_z-of_z}
use Rattle.room_http.specs.{Serve.{Serves, Stops, seen}, Exchange.{Exchanges, Along}}
use Rattle.room_http.proofs.{Telling.at-value, Serving.{Along-begin, Along-then, Serves-from}}
use Rattle.room_http.proofs.Serving.{Stops-from, served-connects}
use mir.Val.{to_z, of_z}
use Rattle.room_http.proofs.connection.serve.Goals as goal

pub returns-in-Ok-Some-clause-serves : goal.returns-in-Ok-Some-clause-serves
returns-in-Ok-Some-clause-serves g c =
    let d = g.D.Desk in
    let old = seen (g.R.Read.remaining c.args.r.now) (g.W.Write.contents c.args.w.now)
    c.args.desk.now in
    let mid = seen (g.R.Read.remaining c.messages.r) (g.W.Write.contents c.messages.w)
    c.messages.desk in
    let new = seen (g.R.Read.remaining c.exchange.new.r) (g.W.Write.contents c.exchange.new.w)
    c.exchange.new.desk in
    let z = to_z w64 (of_z w64 c.args.moment) in
    let at = c.messages.connection in
    let buf = at.inbox.buf.items in
    let along = c.messages.invariant in
    let ended = c.in-Ok-Some.ended in
    let last = at-value (Exchanges d z at.answered mid new buf c.exchange.new.connection) _ _ _
    c.in-Ok-Some.is c.in-Ok-Some.field-0-is (c.exchange.ensures along.near) in
    subst (λ (z : ℤ). Serves d z old new ended) (to_z-of_z w64 c.args.moment c.ranges.moment)
    (Serves-from d g.met.D.Desk.laws z at.answered old mid new buf along
    ended last)

pub returns-in-Ok-Some-clause-connects : goal.returns-in-Ok-Some-clause-connects
returns-in-Ok-Some-clause-connects g c =
    served-connects _ _ _ _ _ (returns-in-Ok-Some-clause-serves g c)

pub returns-in-Err-clause-stops : goal.returns-in-Err-clause-stops
returns-in-Err-clause-stops g c =
    let d = g.D.Desk in
    let old = seen (g.R.Read.remaining c.args.r.now) (g.W.Write.contents c.args.w.now)
    c.args.desk.now in
    let mid = seen (g.R.Read.remaining c.messages.r) (g.W.Write.contents c.messages.w)
    c.messages.desk in
    let new = seen (g.R.Read.remaining c.exchange.new.r) (g.W.Write.contents c.exchange.new.w)
    c.exchange.new.desk in
    let z = to_z w64 (of_z w64 c.args.moment) in
    let at = c.messages.connection in
    let buf = at.inbox.buf.items in
    let along = c.messages.invariant in
    let halt = c.in-Err.halt in
    let stopped = subst (Exchanges d z at.answered mid new buf c.exchange.new.connection)
    c.in-Err.is (c.exchange.ensures along.near) in
    subst (λ (z : ℤ). Stops d z old new
    (record { answered = at.answered; acted = halt.acted; cause = halt.cause }))
    (to_z-of_z w64 c.args.moment c.ranges.moment)
    (Stops-from d g.met.D.Desk.laws z at.answered old mid new buf along
    halt _ refl refl refl stopped)

pub returns-in-Err-clause-connects : goal.returns-in-Err-clause-connects
returns-in-Err-clause-connects g c =
    (returns-in-Err-clause-stops g c).connects

pub messages-preserved : goal.messages-preserved
messages-preserved g c =
    let d = g.D.Desk in
    let old = seen (g.R.Read.remaining c.args.r.now) (g.W.Write.contents c.args.w.now)
    c.args.desk.now in
    let mid = seen (g.R.Read.remaining c.messages.r) (g.W.Write.contents c.messages.w)
    c.messages.desk in
    let new = seen (g.R.Read.remaining c.exchange.new.r) (g.W.Write.contents c.exchange.new.w)
    c.exchange.new.desk in
    let z = to_z w64 (of_z w64 c.args.moment) in
    let at = c.messages.connection in
    let buf = at.inbox.buf.items in
    let along = c.messages.invariant in
    let more = at-value (Exchanges d z at.answered mid new buf c.exchange.new.connection) _ _ _
    c.in-Ok-None.is c.in-Ok-None.field-0-is (c.exchange.ensures along.near) in
    Along-then d g.met.D.Desk.laws z at.answered old mid new buf along c.exchange.new.connection
    more

pub messages-init : goal.messages-init
messages-init g c =
    let d = g.D.Desk in
    let old = seen (g.R.Read.remaining c.args.r.now) (g.W.Write.contents c.args.w.now)
    c.args.desk.now in
    let z = to_z w64 (of_z w64 c.args.moment) in
    subst (λ b. Along d z 0 old old b) (sym c.new.ensures) (Along-begin d g.met.D.Desk.laws z old)
