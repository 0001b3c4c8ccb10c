use Rattle.std.proofs.{Common.w64, lemmas.Int.to_z-of_z}
use Rattle.cli_listen.proofs.Receiving.{ended, stopped}
use Rattle.cli_listen.proofs.serving.serve_stream.Goals as goal

pub returns-in-Ok : goal.returns-in-Ok
returns-in-Ok g c =
    ended g.D.Desk g.met.D.Desk.laws c.args.moment c.args.desk.now c.serve.new.desk _
    (to_z-of_z w64 c.args.moment c.ranges.moment) c.in-Ok.ensures.serves

pub returns-in-Err : goal.returns-in-Err
returns-in-Err g c =
    stopped g.D.Desk g.met.D.Desk.laws c.args.moment c.args.desk.now c.serve.new.desk
    c.in-Err.fault (to_z-of_z w64 c.args.moment c.ranges.moment) c.in-Err.ensures.stops
