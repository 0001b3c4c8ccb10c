use Rattle.std.proofs.Common.{◌-◌, Some, refl}
use Rattle.room_dump.proofs.Reading.{answered, damaged, knows, learns}
use Rattle.room_dump.proofs.Walks.{comes_next, may_come}
use Rattle.room_dump.proofs.visiting.Below.next.Goals as goal

pub returns-then-self-eq0-clause-read : goal.returns-then-self-eq0-clause-read
returns-then-self-eq0-clause-read g c =
    let k = g.K.Keep in
    let laws = g.met.K.Keep.laws in
    let a = c.args.keep.now in
    damaged k laws a a c.in-Some.visit.node.id
    (knows k laws a (λ rows are goes. absurd (may_come rows are c.args.self.now c.pop.new.self.items
    c.in-Some.visit c.in-Some.ensures.items goes c.if-self-eq0.true)))

pub returns-clause-read : goal.returns-clause-read
returns-clause-read g c =
    let k = g.K.Keep in
    let laws = g.met.K.Keep.laws in
    let a = c.args.keep.now in
    let d = c.enter.new.keep in
    let old = c.args.self.now in
    let visit = c.in-Some.visit in
    answered k laws a d (Some visit)
    (learns k laws a a d c.in_ok-enter.field-0 (knows k laws a (λ rows are. are))
    c.in_ok-enter.ensures.read (λ rows are _ waits goes.
    comes_next rows are old c.pop.new.self.items visit c.in-Some.ensures.items goes
    (record { alloc = old.alloc; left = old.left - 1; waiting = c.enter.new.waiting }) refl waits))
