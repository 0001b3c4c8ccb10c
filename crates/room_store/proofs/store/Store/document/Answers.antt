use Rattle.std.proofs.Common.{refl}
use Rattle.sqlite.specs.Held.{state}
use Rattle.room_dump.specs.Fetching.{IsFetched}
use Rattle.store_tables.specs.{Carries.HasDamagedRow, Meaning.rows_of}
use Rattle.room_store.proofs.Looking.{looks_if_open}
use Rattle.room_store.proofs.store.Store.document.Goals as goal

pub returns : goal.returns
returns g c =
    let done = c.fetch_inside-done in
    let tested = c.if_open-done in
    let left = c.give_up in
    let it = looks_if_open (state g.S.Store c.self.inside.conn)
    (state g.S.Store c.begin-tx.result.conn.now) (state g.S.Store done.new.tx.conn.now)
    (state g.S.Store tested.new.tx.conn.now) (state g.S.Store left.new.tx.0) HasDamagedRow
    (λ db fetched. IsFetched c.args.path.now (rows_of db) fetched) done.result tested.result
    left.result c.begin-tx.ensures.begun done.ensures.carries tested.ensures.stays
    tested.ensures.opens tested.ensures.stands left.ensures.ended left.ensures.clean
    left.ensures.gives_up left.ensures.crash in
    rw (← c.self.view_is)
    (record { looked = it.looked; leads = it.leads; outlasts = it.outlasts; faults = refl })
