use Rattle.std.proofs.Common.{[]}
use Rattle.sqlite.specs.Held.{state}
use Rattle.store_tables.proofs.{Asked.asks, Bare.reads_by}
use Rattle.store_admin.proofs.Numbered.{bare_last, shows_last, last_text}
use Rattle.store_admin.proofs.numbers.select_last.Goals as goal

pub returns-clause-asks : goal.returns-clause-asks
returns-clause-asks g c =
    let old = state g.S.Store c.args.tx.now.conn.now in
    let new = state g.S.Store c.query_all.new.self.conn.now in
    asks last_text [] old new c.query_all.result _ (reads_by last_text bare_last)
    c.query_all.ensures.survives
    (λ rows room. shows_last old new rows room) c.query_all.ensures.ok c.query_all.ensures.err
