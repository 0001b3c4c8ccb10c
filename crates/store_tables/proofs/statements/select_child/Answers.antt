use Rattle.std.proofs.Common.{◌∷◌, [], pos}
use Rattle.sqlite.specs.{declared.types.Value.TheVariants.{Int, Text}, Held.state}
use Rattle.store_tables.proofs.{Asked.asks, Selected.shows_child, Bare.reads_by, Rowids.passed_on}
use Rattle.store_tables.proofs.Texts.{bare_texts, child_text}
use Rattle.store_tables.proofs.statements.select_child.Goals as goal

pub returns-clause-asks : goal.returns-clause-asks
returns-clause-asks g c =
    let old = state g.S.Store c.args.tx.now.conn.now in
    let new = state g.S.Store c.query_all.new.self.conn.now in
    let given = rw (passed_on _ _ c.in_ok-row.ensures) at c.params-to_sql.ensures in
    asks child_text (Int (pos c.args.parent) ∷ Text c.args.name.now ∷ []) old new c.query_all.result _
    (reads_by child_text bare_texts.1) c.query_all.ensures.survives
    (λ rows room. shows_child old new rows room (pos c.args.parent) c.args.name.now)
    (rw (given, c.params-to_sql-2.ensures) at c.query_all.ensures.ok)
    (rw (given, c.params-to_sql-2.ensures) at c.query_all.ensures.err)
