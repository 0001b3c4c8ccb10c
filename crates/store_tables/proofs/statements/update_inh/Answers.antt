use Rattle.std.proofs.Common.{rules, ◌∷◌, [], refl, pos}
use Rattle.sqlite.specs.{declared.types.Value.TheVariants.{Int, Text}, Held.state}
use Rattle.room_entry.specs.declared.object.Which.TheVariants.{Dacl, Sacl}
use Rattle.store_tables.specs.{Shown.{Recasts, sets_inh}, Statements.{ExecutesSql, OfRow}}
use Rattle.store_tables.proofs.{Asked.{ended, writes}, Printed.inheriting_printed}
use Rattle.store_tables.proofs.{Recast.{recast_one, recast_room}, Rowids.passed_on}
use Rattle.store_tables.proofs.Texts.{dacl_inh_is, dacl_inh_terms, dacl_inh_text, plain_dacl_inh}
use Rattle.store_tables.proofs.Texts.{sacl_inh_is, sacl_inh_terms, sacl_inh_text, plain_sacl_inh}
use Rattle.store_tables.proofs.statements.update_inh.Goals as goal

pub returns-in-Dacl-clause-writes : goal.returns-in-Dacl-clause-writes
returns-in-Dacl-clause-writes g c =
    let old = state g.S.Store c.args.tx.now.conn.now in
    let new = state g.S.Store c.execute.new.self.conn.now in
    let cell = Text c.args.text.now ∷ [] in
    let change = sets_inh Dacl c.args.text.now in
    let given = rw (passed_on _ _ c.in_ok-row.ensures) at c.params-to_sql.ensures in
    let done : ExecutesSql (OfRow c.args.id (Recasts change)) old new c.execute.result =
    writes dacl_inh_text
    (Int (pos c.args.id) ∷ cell) old new c.execute.result _ _ c.execute.ensures.survives
    (recast_room dacl_inh_text dacl_inh_terms dacl_inh_is plain_dacl_inh (pos c.args.id) cell change
    (λ r. refl) (inheriting_printed Dacl c.args.text.now c.requires) old new)
    (search (rules, c.in_ok-row.ensures.2, recast_one, dacl_inh_is, plain_dacl_inh, old, new))
    (ended (state g.S.Store) _ _ _ _ _ c.execute.ensures.ended) (rw (given, c.params-to_sql-in-Dacl.ensures) at c.execute.ensures.runs) in
    rw c.in-Dacl.is done

pub returns-in-Sacl-clause-writes : goal.returns-in-Sacl-clause-writes
returns-in-Sacl-clause-writes g c =
    let old = state g.S.Store c.args.tx.now.conn.now in
    let new = state g.S.Store c.execute-in-Sacl.new.self.conn.now in
    let cell = Text c.args.text.now ∷ [] in
    let change = sets_inh Sacl c.args.text.now in
    let given = rw (passed_on _ _ c.in_ok-row.ensures) at c.params-to_sql-in-Sacl.ensures in
    let done : ExecutesSql (OfRow c.args.id (Recasts change)) old new c.execute-in-Sacl.result =
    writes sacl_inh_text
    (Int (pos c.args.id) ∷ cell) old new c.execute-in-Sacl.result _ _ c.execute-in-Sacl.ensures.survives
    (recast_room sacl_inh_text sacl_inh_terms sacl_inh_is plain_sacl_inh (pos c.args.id) cell change
    (λ r. refl) (inheriting_printed Sacl c.args.text.now c.requires) old new)
    (search (rules, c.in_ok-row.ensures.2, recast_one, sacl_inh_is, plain_sacl_inh, old, new))
    (ended (state g.S.Store) _ _ _ _ _ c.execute-in-Sacl.ensures.ended) (rw (given, c.params-to_sql-in-Sacl-2.ensures) at c.execute-in-Sacl.ensures.runs) in
    rw c.in-Sacl.is done
