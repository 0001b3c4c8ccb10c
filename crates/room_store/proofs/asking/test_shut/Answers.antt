use Rattle.std.proofs.Common.{[], ap, inl, not, ◌∙◌}
use Rattle.sqlite.specs.Held.{state}
use Rattle.room_store.proofs.Shutting.{asks, not_shut, tells_by}
use Rattle.store_transaction.proofs.Testing.{left_by}
use Rattle.room_store.proofs.asking.test_shut.Goals as goal

pub returns-in-Ok : goal.returns-in-Ok
returns-in-Ok g c =
    let old = state g.S.Store c.args.conn.now in
    let new = state g.S.Store c.prepare.new.self in
    let settled = c.is_autocommit-settled.ensures.settled
    (c.is_autocommit-settled.ensures.value ∙ ap not c.requires) in
    asks old new _ c.prepare.ensures.mode c.prepare.ensures.survives
    settled (λ now. inl (c.in-Ok.ensures.ok now).1)
    (λ now. not_shut new (c.in-Ok.ensures.ok now).1.0.is_open)

pub returns-in-Err : goal.returns-in-Err
returns-in-Err g c =
    let old = state g.S.Store c.args.conn.now in
    let new = state g.S.Store c.prepare.new.self in
    let settled = c.is_autocommit-settled.ensures.settled
    (c.is_autocommit-settled.ensures.value ∙ ap not c.requires) in
    asks old new _ c.prepare.ensures.mode c.prepare.ensures.survives
    settled
    (λ now. left_by _ old new _ _ (c.in-Err.ensures.err now []))
    (tells_by old new _ c.in-Err.error (g.met.S.Store.shut_if_dirty c.prepare.new.self.store)
    c.in-Err.ensures.err _ c.told_by.ensures)
