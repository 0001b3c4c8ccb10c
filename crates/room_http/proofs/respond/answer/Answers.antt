use Rattle.std.proofs.{Common.{subst, w64, ℤ, Ok}, lemmas.Int.to_z-of_z}
use Rattle.http_message.specs.Asked.{request_of}
use Rattle.room_http.specs.{Answer.Responds, declared.response.Response.Response}
use Rattle.room_http.proofs.Telling.{joined-answers}
use Rattle.room_http.proofs.respond.answer.Goals as goal

pub returns-in-Replied : goal.returns-in-Replied
returns-in-Replied g c =
    let d = g.D.Desk in
    let asked = request_of c.args.head.now c.args.body.now in
    let old = c.args.desk.now in
    let new = c.respond.new.desk in
    let close = c.args.close in
    let found = c.in_ok-text.field-0 in
    let given = subst (λ (z : ℤ). Responds d z old new close asked (Ok found))
    (to_z-of_z w64 c.args.moment c.ranges.moment) c.in_ok-text.ensures in
    let tells = subst (λ (r : Response). Responds d c.args.moment old new close asked (Ok r))
    c.in-Replied.is given in
    joined-answers d c.args.moment old new close asked _ tells c.joined.result c.joined.ensures
