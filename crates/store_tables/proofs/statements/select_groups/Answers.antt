use Rattle.std.proofs.Common.{◌∷◌, []}
use Rattle.sqlite.specs.{declared.types.Value.TheVariants.Text, Held.state}
use Rattle.store_tables.proofs.{Asked.asks, Selected.shows_groups, Bare.reads_by, Texts.bare_texts}
use Rattle.store_tables.proofs.Texts.{groups_text}
use Rattle.store_tables.proofs.statements.select_groups.Goals as goal

pub returns-clause-asks : goal.returns-clause-asks
returns-clause-asks g c =
    let old = state g.S.Store c.args.tx.now.conn.now in
    let new = state g.S.Store c.query_all.new.self.conn.now in
    let given = c.params-to_sql.ensures in
    asks groups_text (Text c.args.user.now ∷ []) old new c.query_all.result _
    (reads_by groups_text bare_texts.6)
    c.query_all.ensures.survives
    (λ rows room. shows_groups old new rows room c.args.user.now)
    (rw given at c.query_all.ensures.ok) (rw given at c.query_all.ensures.err)
