use Rattle.std.proofs.Common.{◌+◌, ◌-◌, ◌<◌, length}
use Rattle.room_http.specs.{Limits.read_size, Spans.Came}
use Rattle.room_http.proofs.cut.Inbox.read_body.Given as goal

abbrev pub invariant-reading : goal.invariant-reading
invariant-reading g l =
    Came (g.R.Read.remaining l.fn.r) (g.R.Read.remaining l.r) l.fn.self.buf.items l.self.buf.items
    × (length l.fn.self.buf.items < l.fn.total + read_size → length l.self.buf.items < l.fn.total + read_size)

abbrev pub decreases-reading : goal.decreases-reading
decreases-reading g l = l.fn.total - length l.self.buf.items
