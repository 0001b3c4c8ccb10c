use Rattle.sqlite.specs.Held.{state}
use Rattle.store_tables.proofs.{Asked.{ended, writes}, Inserts.{insert_room, inserted}}
use Rattle.store_tables.proofs.{Texts.insert_text, Updates.{bound_parent, columns_in, values}}
use Rattle.store_tables.proofs.statements.insert_node.Goals as goal

pub returns-clause-writes : goal.returns-clause-writes
returns-clause-writes g c =
    let old = state g.S.Store c.args.tx.now.conn.now in
    let new = state g.S.Store c.execute.new.self.conn.now in
    let stored = c.requires.1 in
    let cols = columns_in c.args.columns.now stored.is_parent in
    let runs = rw (bound_parent c.args.columns.now.parent stored.is_parent) at
    (simp (
      c.params-to_sql.ensures,
      c.params-to_sql-2.ensures,
      c.params-to_sql-3.ensures,
      c.params-to_sql-4.ensures,
      c.params-to_sql-5.ensures,
      c.params-to_sql-6.ensures,
      c.params-to_sql-7.ensures,
      c.params-to_sql-8.ensures,
      c.params-to_sql-9.ensures,
      c.params-to_sql-10.ensures,
      c.params-to_sql-11.ensures,
    ) at c.execute.ensures.runs) in
    writes insert_text (values cols) old new c.execute.result _ _ c.execute.ensures.survives
    (λ inside. insert_room cols (record {
      dacl_own = (_, stored.dacl_own);
      dacl_inh = (_, stored.dacl_inh);
      sacl_own = (_, stored.sacl_own);
      sacl_inh = (_, stored.sacl_inh);
    }) old new inside)
    (λ count room h. let d = inserted cols old new count room.schema h in (d.adds, d.last))
    (ended (state g.S.Store) _ _ _ _ _ c.execute.ensures.ended) runs
