use Rattle.std.proofs.Common.{[], arith}
use Rattle.sqlite.specs.Held.{state}
use Rattle.store_tables.proofs.{Asked.asks, Bare.reads_by}
use Rattle.store_admin.proofs.{Answered.answered, Recorded.{bare_records, fails_records}}
use Rattle.store_admin.proofs.Recorded.{records_text, shows_records}
use Rattle.store_admin.proofs.records.select_records.Goals as goal

pub returns-clause-asks : goal.returns-clause-asks
returns-clause-asks g c =
    let old = state g.S.Store c.args.tx.now.conn.now in
    let new = state g.S.Store c.query_all.new.self.conn.now in
    asks records_text [] old new c.query_all.result _ (reads_by records_text bare_records)
    c.query_all.ensures.survives
    (λ rows room. shows_records old new rows room) c.query_all.ensures.ok c.query_all.ensures.err

pub returns-clause-opens : goal.returns-clause-opens
returns-clause-opens g c =
    answered records_text [] (state g.S.Store c.args.tx.now.conn.now)
    (state g.S.Store c.query_all.new.self.conn.now) c.query_all.result c.query_all.ensures.ok

pub returns-clause-fails : goal.returns-clause-fails
returns-clause-fails g c =
    grind (arith, fails_records, c.query_all.ensures.err)
