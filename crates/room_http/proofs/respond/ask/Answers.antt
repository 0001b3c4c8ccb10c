use Rattle.std.proofs.{Common.{arith, refl, rules, subst, w64, ℤ, Ok, SFits}, lemmas.Int.to_z-of_z}
use Rattle.std.specs.Option.{option_copied}
use Rattle.room_machine.specs.{Run.{Asked, event_of, unanswered}, declared.desk.DeskFault.DeskFault}
use Rattle.room_machine.proofs.Meeting.{closed_once, closed_still}
use Rattle.room_http.proofs.Telling.{responds-by, rose}
use Rattle.room_http.proofs.respond.ask.Goals as goal

pub returns-in-Ok : goal.returns-in-Ok
returns-in-Ok g c =
    let d = g.D.Desk in
    let old = c.args.desk.now in
    let new = c.run.new.self in
    let user = option_copied c.args.caller in
    let request = c.args.request.now in
    let reply = c.in-Ok.reply in
    let fits : SFits w64 c.args.call.now.moment = search rules in
    let real = to_z-of_z w64 c.args.call.now.moment fits in
    responds-by d c.args.call.now.moment old new c.args.close (Ok (user, request)) reply
    (record {
      call = (user, request);
      asks = refl;
      did = record {
        trusted = c.in-Ok.ensures.trusted;
        sound = c.in-Ok.ensures.sound;
        run = grind (arith, d.content, old, user, request, reply, new, real, c.in-Ok.ensures.step);
        closed = λ t.
            closed_once {E = DeskFault} (d.stored old) (d.stored new) user
            c.args.call.now.moment request (Ok reply)
            (grind (arith, d.stored, old, user, request, reply, new, real, c.in-Ok.ensures.closed));
        outlasts =
            subst (λ (z : ℤ). d.Outlasts old
            (unanswered {E = DeskFault} (Ok reply) (Asked user z request))
            (event_of {E = DeskFault} (Ok reply) (Asked user z request)) new) real
            c.in-Ok.ensures.outlasts;
      };
      faults = c.in-Ok.ensures.faults;
    }) c.delivered.result c.delivered.ensures

pub returns-in-Err : goal.returns-in-Err
returns-in-Err g c =
    let d = g.D.Desk in
    let old = c.args.desk.now in
    let new = c.run.new.self in
    let user = option_copied c.args.caller in
    let request = c.args.request.now in
    let fits : SFits w64 c.args.call.now.moment = search rules in
    let real = to_z-of_z w64 c.args.call.now.moment fits in
    record {
      asks = tt;
      did = record {
        trusted = c.in-Err.ensures.trusted;
        sound = c.in-Err.ensures.sound;
        run = λ t s room is. (room, refl, c.in-Err.ensures.step t s room is);
        closed = λ t. closed_still (d.stored old) (d.stored new) (c.in-Err.ensures.closed t);
        outlasts =
            grind (arith, d.Outlasts, old, user, request, new, real, c.in-Err.ensures.outlasts);
      };
      faults = rose _ _ c.in-Err.ensures.faults;
    }
