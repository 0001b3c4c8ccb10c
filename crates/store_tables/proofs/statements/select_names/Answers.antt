use Rattle.std.proofs.Common.{◌∷◌, [], pos}
use Rattle.sqlite.specs.{declared.types.Value.TheVariants.Int, Held.state}
use Rattle.store_tables.proofs.{Asked.asks, Selected.shows_names, Bare.reads_by, Rowids.passed_on}
use Rattle.store_tables.proofs.Texts.{bare_texts, names_text}
use Rattle.store_tables.proofs.statements.select_names.Goals as goal

pub returns-clause-asks : goal.returns-clause-asks
returns-clause-asks g c =
    let old = state g.S.Store c.args.tx.now.conn.now in
    let new = state g.S.Store c.query_all.new.self.conn.now in
    let given = rw (passed_on _ _ c.in_ok-row.ensures) at c.params-to_sql.ensures in
    asks names_text (Int (pos c.args.parent) ∷ []) old new c.query_all.result _
    (reads_by names_text bare_texts.8)
    c.query_all.ensures.survives
    (λ rows room. shows_names old new rows room (pos c.args.parent)) (rw given at c.query_all.ensures.ok)
    (rw given at c.query_all.ensures.err)
