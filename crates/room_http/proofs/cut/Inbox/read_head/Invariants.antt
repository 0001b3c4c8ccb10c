use Rattle.std.proofs.Common.{◌-◌, length}
use Rattle.room_http.{specs.{Limits.max_head, Spans.Came}, proofs.Near.Grown}
use Rattle.room_http.proofs.cut.Inbox.read_head.Given as goal

abbrev pub invariant-reading : goal.invariant-reading
invariant-reading g l =
    Came (g.R.Read.remaining l.fn.r) (g.R.Read.remaining l.r) l.fn.self.buf.items l.self.buf.items
    × Grown l.fn.self.buf.items l.self.buf.items

abbrev pub decreases-reading : goal.decreases-reading
decreases-reading g l = max_head - length l.self.buf.items
