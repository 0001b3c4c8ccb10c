use Rattle.std.proofs.Common.{◌∷◌, [], Ok, pos}
use Rattle.sqlite.specs.{declared.types.Value.TheVariants.Int, Held.state}
use Rattle.store_tables.proofs.{Actions.{delete_room, delete_one}, Asked.{ended, writes}}
use Rattle.store_tables.proofs.{Rowids.passed_on, Texts.delete_text}
use Rattle.store_tables.proofs.statements.delete_node.Goals as goal

pub returns-clause-writes : goal.returns-clause-writes
returns-clause-writes g c =
    let old = state g.S.Store c.args.tx.now.conn.now in
    let new = state g.S.Store c.execute.new.self.conn.now in
    let given = rw (passed_on _ _ c.in_ok-row.ensures) at c.params-to_sql.ensures in
    writes delete_text (Int (pos c.args.id) ∷ []) old new c.execute.result _ _
    c.execute.ensures.survives (λ inside. delete_room (pos c.args.id) old new inside)
    (λ count room h one. (c.in_ok-row.ensures.2, delete_one (pos c.args.id) old new (Ok count) room h one))
    (ended (state g.S.Store) _ _ _ _ _ c.execute.ensures.ended) (rw given at c.execute.ensures.runs)
