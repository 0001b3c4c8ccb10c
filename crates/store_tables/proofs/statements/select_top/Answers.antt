use Rattle.std.proofs.Common.{[]}
use Rattle.sqlite.specs.Held.{state}
use Rattle.store_tables.proofs.{Asked.asks, Selected.shows_top, Bare.reads_by, Texts.bare_texts}
use Rattle.store_tables.proofs.Texts.{root_text}
use Rattle.store_tables.proofs.statements.select_top.Goals as goal

pub returns-clause-asks : goal.returns-clause-asks
returns-clause-asks g c =
    let old = state g.S.Store c.args.tx.now.conn.now in
    let new = state g.S.Store c.query_all.new.self.conn.now in
    asks root_text [] old new c.query_all.result _
    (reads_by root_text bare_texts.3) c.query_all.ensures.survives
    (λ rows room. shows_top old new rows room) c.query_all.ensures.ok c.query_all.ensures.err
