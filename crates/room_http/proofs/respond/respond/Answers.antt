use Rattle.std.{proofs.Common.{arith, ◌≡◌, ◌∙◌, sym, ap, Ok}, specs.Option.option_copied}
use Rattle.http_message.specs.Asked.{request_of}
use Rattle.room_http.specs.Message.{Parsed}
use Rattle.room_http.proofs.respond.respond.Goals as goal

pub returns-in-Ok : goal.returns-in-Ok
returns-in-Ok g c =
    let asked : Parsed = request_of c.args.head.now c.args.body.now in
    let request = c.in-Ok.request in
    let same : Ok (option_copied c.as_ref.result, request) ≡ asked =
    ap (λ u. Ok (u, request)) c.as_ref.ensures.value ∙ sym c.in-Ok.ensures in
    grind (arith, g.D.Desk, c.ask.new.desk, same, c.ask.ensures)
