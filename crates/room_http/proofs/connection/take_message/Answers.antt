use Rattle.std.proofs.Common.{refl, subst}
use Rattle.room_http.specs.{declared.connection.Wrote.Wrote, Serve.seen, Tell.Tells}
use Rattle.room_http.proofs.{Telling.at-value, Exchanging.{closes-the-same, responds-to}}
use Rattle.room_http.proofs.Exchanging.{take-answered, take-failed, take-stop}
use Rattle.room_http.proofs.connection.take_message.Goals as goal

pub returns-in-Failed : goal.returns-in-Failed
returns-in-Failed g c left near =
    let d = g.D.Desk in
    let moment = c.args.call.now.moment in
    let old = seen left (g.W.Write.contents c.args.w.now) c.args.desk.now in
    let new = seen left (g.W.Write.contents c.tell.new.w) c.respond-response.new.desk in
    let connection = c.args.connection.now in
    let buf = connection.inbox.buf.items in
    let close = c.says_close-close.result in
    let response = c.respond-response.result in
    let responds = responds-to d moment old.desk new.desk buf c.args.next c.requires.next _ close
    response c.deref.ensures.value c.respond-response.ensures in
    take-failed d moment connection.answered old new buf c.args.next c.requires.next close response
    near refl responds
    (at-value (Tells response old.sent new.sent) _ _ Wrote.Failed c.in-Ok.is c.in-Failed.is
    c.tell.ensures)

pub returns : goal.returns
returns g c left near =
    let d = g.D.Desk in
    let moment = c.args.call.now.moment in
    let old = seen left (g.W.Write.contents c.args.w.now) c.args.desk.now in
    let new = seen left (g.W.Write.contents c.tell.new.w) c.respond-response.new.desk in
    let connection = c.args.connection.now in
    let buf = connection.inbox.buf.items in
    let n = connection.answered in
    let close = c.says_close-close.result in
    let response = c.respond-response.result in
    let responds = responds-to d moment old.desk new.desk buf c.args.next c.requires.next _ close
    response c.deref.ensures.value c.respond-response.ensures in
    take-answered d g.met.D.Desk.laws moment n old new buf c.behind_reply.new.connection
    c.args.next c.requires.next close c.behind_reply.result response c.requires.few near refl
    (closes-the-same buf c.args.next c.requires.next n close c.says_close-close.ensures)
    c.behind_reply.ensures.closes c.behind_reply.ensures.stays c.behind_reply.ensures.counts responds
    (at-value (Tells response old.sent new.sent) _ _ Wrote.Answered c.in-Ok.is c.in-Answered.is
    c.tell.ensures)

pub returns-in-Err : goal.returns-in-Err
returns-in-Err g c left near =
    let d = g.D.Desk in
    let moment = c.args.call.now.moment in
    let old = seen left (g.W.Write.contents c.args.w.now) c.args.desk.now in
    let new = seen left (g.W.Write.contents c.tell.new.w) c.respond-response.new.desk in
    let connection = c.args.connection.now in
    let buf = connection.inbox.buf.items in
    let n = connection.answered in
    let close = c.says_close-close.result in
    let response = c.respond-response.result in
    let responds = responds-to d moment old.desk new.desk buf c.args.next c.requires.next _ close
    response c.deref.ensures.value c.respond-response.ensures in
    take-stop d moment n old new buf c.args.next c.requires.next close c.in-Err.halt
    near refl
    (closes-the-same buf c.args.next c.requires.next n close c.says_close-close.ensures)
    g.met.D.Desk.laws response responds
    (subst (Tells response old.sent new.sent) c.in-Err.is c.tell.ensures)
