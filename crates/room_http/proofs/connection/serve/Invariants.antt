use Rattle.std.proofs.Common.{◌-◌}
use Rattle.room_http.specs.{Limits.max_messages, Serve.seen, Exchange.Along}
use Rattle.room_http.proofs.connection.serve.Given as goal

abbrev pub invariant-messages : goal.invariant-messages
invariant-messages g l =
    Along g.D.Desk l.call.moment l.connection.answered
    (seen (g.R.Read.remaining l.fn.r) (g.W.Write.contents l.fn.w) l.fn.desk)
    (seen (g.R.Read.remaining l.r) (g.W.Write.contents l.w) l.desk) l.connection.inbox.buf.items

abbrev pub decreases-messages : goal.decreases-messages
decreases-messages g l = max_messages - l.connection.answered
