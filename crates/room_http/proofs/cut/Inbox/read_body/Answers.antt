use Rattle.std.proofs.Common.{◌-◌, ◌<◌, ◌≤◌, arith, length, max}
use Rattle.room_http.{specs.Limits.read_size, proofs.{KnownBytes.no-is-not-yes, Near.stops-body}}
use Rattle.room_http.proofs.cut.Inbox.read_body.Goals as goal

pub returns-in-Err-clause-lost : goal.returns-in-Err-clause-lost
returns-in-Err-clause-lost g c =
    let short : length c.reading.self.buf.items < c.args.total = omega
    (arith, c.len.ensures, c.reading-test.true) in
    let most : c.room_for-room.result ≤ max read_size
    (c.args.total - length c.reading.self.buf.items) = omega
    (arith, c.room_for-room.ensures.near, c.len-in-reading-2.ensures) in
    stops-body _ _ _ _ _ _ _ _ c.reading.invariant.0 c.in-Err.ensures.lost short most

pub returns-in-Ok-false-clause-whole : goal.returns-in-Ok-false-clause-whole
returns-in-Ok-false-clause-whole g c e = absurd (no-is-not-yes _ tt e)
