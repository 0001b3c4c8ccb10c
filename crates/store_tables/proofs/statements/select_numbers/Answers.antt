use Rattle.std.proofs.Common.{[]}
use Rattle.sqlite.specs.Held.{state}
use Rattle.store_tables.proofs.{Asked.asks, Selected.shows_numbers, Bare.reads_by, Texts.bare_texts}
use Rattle.store_tables.proofs.Texts.{ids_text}
use Rattle.store_tables.proofs.statements.select_numbers.Goals as goal

pub returns-clause-asks : goal.returns-clause-asks
returns-clause-asks g c =
    let old = state g.S.Store c.args.tx.now.conn.now in
    let new = state g.S.Store c.query_all.new.self.conn.now in
    asks ids_text [] old new c.query_all.result _
    (reads_by ids_text bare_texts.4) c.query_all.ensures.survives
    (λ rows room. shows_numbers old new rows room) c.query_all.ensures.ok c.query_all.ensures.err
