use Rattle.std.proofs.Common.{rules, subst}
use Rattle.room_http.specs.{declared.next.Upcoming.Upcoming, Serve.seen}
use Rattle.room_http.specs.Exchange.{ComesNear, Coming}
use Rattle.room_http.proofs.Exchanging.{shift, ends-clean, ends-cut, ends-refused}
use Rattle.room_http.proofs.connection.exchange.Goals as goal

pub returns-in-Whole : goal.returns-in-Whole
returns-in-Whole g c near =
    let left = g.R.Read.remaining c.next_message.new.r in
    let sent = g.W.Write.contents c.args.w.now in
    let new = seen left (g.W.Write.contents c.take_message.new.w) c.take_message.new.desk in
    let ahead = subst (λ (u : Upcoming). ComesNear c.next_message.new.self.buf.items u)
    c.in-Whole.is (c.in-Ok.ensures.near near) in
    search (rules, shift, g.D.Desk, new, c.in-Ok.ensures.came, c.take_message.ensures, ahead)

pub returns-in-Refused : goal.returns-in-Refused
returns-in-Refused g c near =
    let left = g.R.Read.remaining c.next_message.new.r in
    let came = c.next_message.new.self.buf.items in
    let next = subst (λ (u : Upcoming). Coming came left u) c.in-Refused.is c.in-Ok.ensures.next in
    let ahead = subst (λ (u : Upcoming). ComesNear came u) c.in-Refused.is
    (c.in-Ok.ensures.near near) in
    ends-refused g.D.Desk g.met.D.Desk.laws c.args.call.now.moment c.args.connection.now.answered _
    left _ _ c.args.desk.now _ _
    _ c.in-Refused.refusal _ c.in-Ok.ensures.came next ahead c.refuse.ensures.ok
    c.refuse.ensures.err

pub returns-in-Clean : goal.returns-in-Clean
returns-in-Clean g c near =
    let left = g.R.Read.remaining c.next_message.new.r in
    let next = subst (λ (u : Upcoming). Coming c.next_message.new.self.buf.items left u)
    c.in-Clean.is c.in-Ok.ensures.next in
    search (rules, ends-clean, g.D.Desk, g.met.D.Desk.laws, c.in-Ok.ensures.came, next)

pub returns-in-Cut : goal.returns-in-Cut
returns-in-Cut g c near =
    let left = g.R.Read.remaining c.next_message.new.r in
    let next = subst (λ (u : Upcoming). Coming c.next_message.new.self.buf.items left u)
    c.in-Cut.is c.in-Ok.ensures.next in
    search (rules, ends-cut, g.D.Desk, g.met.D.Desk.laws, c.in-Ok.ensures.came, next)
