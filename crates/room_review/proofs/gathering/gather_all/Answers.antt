use Rattle.std.proofs.Common.{arith}
use Rattle.room_dump.proofs.{Reading.{knows, learns}, Walks.comes_first}
use Rattle.room_review.proofs.Gathered.{gathers_next}
use Rattle.room_review.proofs.gathering.gather_all.Goals as goal

pub objects-init : goal.objects-init
objects-init g c = grind (arith, knows, g.K.Keep, g.met.K.Keep.laws)

pub objects-preserved : goal.objects-preserved
objects-preserved g c =
    let old = c.objects.walk in
    let new = c.next.new.self in
    let visit = c.in-Some.visit in
    learns g.K.Keep g.met.K.Keep.laws c.args.keep.now c.objects.keep c.next.new.keep
    c.in_ok-visit.field-0 c.objects.invariant c.in_ok-visit.ensures.read
    (λ rows are gathering next goes.
    let came = comes_first rows old new c.in_ok-visit.field-0 visit next c.in-Some.is
    (gathering goes).goes in
    gathers_next rows c.args.walk.now old new visit c.args.users.now c.objects.users
    c.add_users_at-gathered.new.self (gathering goes) came.0 came.1 c.in_ok-gathered.ensures)
