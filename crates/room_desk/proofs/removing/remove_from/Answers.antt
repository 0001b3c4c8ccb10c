use Rattle.std.proofs.Common.{arith}
use Rattle.room_judge.proofs.{Calls.{done, tail}, Judging.blames_first}
use Rattle.room_desk.proofs.removing.remove_from.Goals as goal

pub returns-clause-done : goal.returns-clause-done
returns-clause-done g c =
    tail g.met.K.Keep.laws (done c.in_ok-check_deletion.ensures.done)
    c.remove_childless.ensures.done (grind (arith, blames_first)) (grind arith)
