use Rattle.std.proofs.Common.{subst}
use Rattle.room_http.specs.{Spans.HeadNear, declared.cut.HeadRead.HeadRead}
use Rattle.room_http.proofs.KnownBytes.{lost-behind}
use Rattle.room_http.proofs.cut.Inbox.next_message.Goals as goal

pub returns-in-Found-clause-lost : goal.returns-in-Found-clause-lost
returns-in-Found-clause-lost g c = λ near.
    let before = g.R.Read.remaining c.args.r.now in
    let between = g.R.Read.remaining c.read_head.new.r in
    let after = g.R.Read.remaining c.next_behind.new.r in
    let ahead = subst (λ (read : HeadRead). HeadNear c.read_head.new.self.buf.items read)
    c.in-Found.is (c.in_ok-parts.ensures.near near) in
    lost-behind before between after c.args.self.now.buf.items c.read_head.new.self.buf.items
    c.next_behind.result c.in_ok-parts.ensures.came (c.next_behind.ensures.lost ahead)
