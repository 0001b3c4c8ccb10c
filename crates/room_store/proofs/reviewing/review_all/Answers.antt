use Rattle.std.proofs.Common.{subst}
use Rattle.sqlite.specs.Held.{state}
use Rattle.store_tables.specs.Carries.{CallsInside, HasDamagedRow, Reading}
use Rattle.store_transaction.specs.Reviews.{IsReviewBy}
use Rattle.room_store.proofs.Reviewed.{paired}
use Rattle.room_store.proofs.reviewing.review_all.Goals as goal

pub returns-clause-carries : goal.returns-clause-carries
returns-clause-carries g c =
    let mid = state g.S.Store c.all_members.new.tx.conn.now in
    let new = state g.S.Store c.review_inside.new.tx.conn.now in
    let question = c.args.question.now in
    let result = c.review_inside.result in
    let read = c.in_ok-pairs.ensures in
    paired question result (state g.S.Store c.args.tx.now.conn.now) mid new c.in_ok-pairs.pairs
    read.carries read.same
    (subst (λ pairs. CallsInside mid new result HasDamagedRow
    (Reading (IsReviewBy pairs question))) c.as_slice.ensures.value c.review_inside.ensures.carries)
