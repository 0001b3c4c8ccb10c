use Rattle.std.proofs.Common.{arith}
use Rattle.sqlite.specs.Held.{state}
use Rattle.store_tables.specs.Carries.{HasDamagedRow}
use Rattle.room_store.{specs.Reviews.IsReviewOf, proofs.Looking.looks_if_open}
use Rattle.room_store.proofs.store.Store.review.Goals as goal

pub returns : goal.returns
returns g c =
    let done = c.review_all-done in
    let tested = c.if_open-done in
    let left = c.give_up in
    let it = looks_if_open (state g.S.Store c.self.inside.conn)
    (state g.S.Store c.begin-tx.result.conn.now) (state g.S.Store done.new.tx.conn.now)
    (state g.S.Store tested.new.tx.conn.now) (state g.S.Store left.new.tx.0) HasDamagedRow
    (IsReviewOf c.args.question.now) done.result tested.result left.result
    c.begin-tx.ensures.begun done.ensures.carries tested.ensures.stays tested.ensures.opens
    tested.ensures.stands left.ensures.ended left.ensures.clean left.ensures.gives_up
    left.ensures.crash in grind (arith, c.self.view_is, it.looked, it.leads, it.outlasts)
