use Rattle.std.proofs.Common.{arith}
use Rattle.room_judge.proofs.{Calls.{done, of_read, tail}, Walked.reached_from}
use Rattle.room_judge.proofs.walking.walk_along.Goals as goal

pub returns-clause-done : goal.returns-clause-done
returns-clause-done g c =
    tail g.met.K.Keep.laws (done (of_read c.in_ok-root.ensures.read)) c.walk_down.ensures.done
    (grind arith)
    (grind (arith, reached_from, c.in_ok-root.root))
