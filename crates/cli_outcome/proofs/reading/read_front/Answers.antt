use Rattle.std.proofs.Common.{◌+◌, ◌≤◌, arith, length, ap, ◌∙◌, Ok}
use Rattle.cli_outcome.proofs.Fronts.{came_lost, came_on, came_whole}
use Rattle.cli_outcome.proofs.reading.read_front.Goals as goal

pub returns-in_err-read_some-clause-few : goal.returns-in_err-read_some-clause-few
returns-in_err-read_some-clause-few g c =
    let fits : length c.reading.bytes.items + c.room_for-room.result ≤ c.args.most =
    omega (arith, c.len-count.ensures, c.room_for-room.ensures.within, c.room_for-room.ensures.some)
    in
    came_lost (g.R.Read.remaining c.args.reader.now) (g.R.Read.remaining c.reading.reader)
    (g.R.Read.remaining c.read_some.new.reader) c.reading.bytes.items c.room_for-room.result
    c.args.most c.reading.invariant fits c.read_some.ensures.few

pub returns-then-not-branch-clause-few : goal.returns-then-not-branch-clause-few
returns-then-not-branch-clause-few g c =
    let fits : length c.reading.bytes.items + c.room_for-room.result ≤ c.args.most =
    omega (arith, c.len-count.ensures, c.room_for-room.ensures.within, c.room_for-room.ensures.some)
    in
    came_lost (g.R.Read.remaining c.args.reader.now) (g.R.Read.remaining c.reading.reader)
    (g.R.Read.remaining c.read_some.new.reader) c.reading.bytes.items c.room_for-room.result
    c.args.most c.reading.invariant fits c.read_some.ensures.few

pub returns-then-not-branch-clause-front : goal.returns-then-not-branch-clause-front
returns-then-not-branch-clause-front g c =
    let fits : length c.reading.bytes.items + c.room_for-room.result ≤ c.args.most =
    omega (arith, c.len-count.ensures, c.room_for-room.ensures.within, c.room_for-room.ensures.some)
    in
    came_whole (g.R.Read.remaining c.args.reader.now) (g.R.Read.remaining c.read_some.new.reader)
    c.read_some.new.bytes.items c.args.most
    (came_on (g.R.Read.remaining c.args.reader.now) (g.R.Read.remaining c.reading.reader)
    (g.R.Read.remaining c.read_some.new.reader) c.reading.bytes.items c.read_some.new.bytes.items
    c.room_for-room.result c.args.most c.reading.invariant fits c.in_ok-read_some.ensures.came)
    (c.read_some.ensures.end (c.in_ok-read_some.was ∙ ap Ok c.if-not-branch.true)).1

pub reading-preserved : goal.reading-preserved
reading-preserved g c =
    let fits : length c.reading.bytes.items + c.room_for-room.result ≤ c.args.most =
    omega (arith, c.len-count.ensures, c.room_for-room.ensures.within, c.room_for-room.ensures.some)
    in
    came_on (g.R.Read.remaining c.args.reader.now) (g.R.Read.remaining c.reading.reader)
    (g.R.Read.remaining c.read_some.new.reader) c.reading.bytes.items c.read_some.new.bytes.items
    c.room_for-room.result c.args.most c.reading.invariant fits c.in_ok-read_some.ensures.came
