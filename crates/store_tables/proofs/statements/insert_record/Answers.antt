use Rattle.sqlite.specs.Held.{state}
use Rattle.store_tables.specs.Columns.{record_values}
use Rattle.store_tables.proofs.{Asked.{ended, writes}, Noted.{note_room, notes}, Texts.note_text}
use Rattle.store_tables.proofs.statements.insert_record.Goals as goal

pub returns-clause-writes : goal.returns-clause-writes
returns-clause-writes g c =
    let old = state g.S.Store c.args.tx.now.conn.now in
    let new = state g.S.Store c.execute.new.self.conn.now in
    let record' = c.args.noted.now in
    let runs = simp (
      c.params-to_sql.ensures,
      c.params-to_sql-2.ensures,
      c.params-to_sql-3.ensures,
      c.params-to_sql-4.ensures,
      c.params-to_sql-5.ensures,
      c.params-to_sql-6.ensures,
    ) at
    c.execute.ensures.runs in
    writes note_text (record_values record') old new c.execute.result _ _
    c.execute.ensures.survives (λ inside. note_room record' c.requires old new inside)
    (λ count room h. notes record' old new count room h)
    (ended (state g.S.Store) _ _ _ _ _ c.execute.ensures.ended) runs
