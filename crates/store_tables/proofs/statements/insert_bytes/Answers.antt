use Rattle.std.proofs.Common.{◌∷◌, [], pos}
use Rattle.sqlite.specs.{declared.types.Value.TheVariants.{Int, Blob}, Held.state}
use Rattle.store_tables.proofs.{Asked.{ended, writes}, Bodied.{bodied, put_room}, Rowids.passed_on}
use Rattle.store_tables.proofs.Texts.{put_text}
use Rattle.store_tables.proofs.statements.insert_bytes.Goals as goal

pub returns-clause-writes : goal.returns-clause-writes
returns-clause-writes g c =
    let old = state g.S.Store c.args.tx.now.conn.now in
    let new = state g.S.Store c.execute.new.self.conn.now in
    let given = rw (passed_on _ _ c.in_ok-row.ensures) at c.params-to_sql.ensures in
    writes put_text (Int (pos c.args.id) ∷ Blob c.args.bytes.now ∷ []) old new c.execute.result _ _
    c.execute.ensures.survives (λ inside. put_room (pos c.args.id) c.args.bytes.now old new inside)
    (λ count room h. (bodied (pos c.args.id) c.args.bytes.now old new count room.schema h).puts)
    (ended (state g.S.Store) _ _ _ _ _ c.execute.ensures.ended) (rw (given, c.params-to_sql-2.ensures) at c.execute.ensures.runs)
