use Rattle.std.proofs.Common.{refl}
use Rattle.room_http.proofs.connection.behind_reply.Goals as goal

pub returns-then-not-close-clause-stays : goal.returns-then-not-close-clause-stays
returns-then-not-close-clause-stays c e = (refl, c.drop_front.ensures)
