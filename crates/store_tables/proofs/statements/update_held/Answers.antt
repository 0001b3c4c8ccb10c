use Rattle.std.{proofs.Common.{rules, ◌∷◌, [], refl, pos}, specs.Prelude.string_bytes}
use Rattle.sqlite.specs.{declared.types.Value.TheVariants.{Int, Text}, Held.state}
use Rattle.room_entry.specs.declared.object.Which.TheVariants.{Dacl, Sacl}
use Rattle.store_tables.specs.{Shown.{Recasts, sets_held}, Statements.{ExecutesSql, OfRow}}
use Rattle.store_tables.proofs.{Asked.{ended, writes}, Printed.holding_printed, Recast.recast_one}
use Rattle.store_tables.proofs.{Recast.recast_room, Rowids.passed_on, Texts.{dacl_is, dacl_terms}}
use Rattle.store_tables.proofs.Texts.{dacl_text, plain_dacl, sacl_is, sacl_terms, sacl_text}
use Rattle.store_tables.proofs.Texts.{plain_sacl}
use Rattle.store_tables.proofs.statements.update_held.Goals as goal

pub returns-in-Dacl-clause-writes : goal.returns-in-Dacl-clause-writes
returns-in-Dacl-clause-writes g c =
    let old = state g.S.Store c.args.tx.now.conn.now in
    let new = state g.S.Store c.execute.new.self.conn.now in
    let cell = Int c.args.list.now.flags ∷ Text (string_bytes c.args.list.now.own)
    ∷ Text (string_bytes c.args.list.now.inh) ∷ [] in
    let change = sets_held Dacl c.args.list.now.flags (string_bytes c.args.list.now.own)
    (string_bytes c.args.list.now.inh) in
    let given = rw (passed_on _ _ c.in_ok-row.ensures) at c.params-to_sql.ensures in
    let runs = simp (
      given,
      c.params-to_sql-in-Dacl.ensures,
      c.params-to_sql-in-Dacl-2.ensures,
      c.params-to_sql-in-Dacl-3.ensures,
    ) at c.execute.ensures.runs in
    let done : ExecutesSql (OfRow c.args.id (Recasts change)) old new c.execute.result =
    writes dacl_text (Int (pos c.args.id) ∷ cell) old new c.execute.result _ _
    c.execute.ensures.survives
    (recast_room dacl_text dacl_terms dacl_is plain_dacl (pos c.args.id) cell change (λ r. refl)
    (search (rules, holding_printed, c.requires.1.own, c.requires.1.inh)) old new)
    (search (rules, c.in_ok-row.ensures.2, recast_one, dacl_is, plain_dacl, old, new))
    (ended (state g.S.Store) _ _ _ _ _ c.execute.ensures.ended) runs in
    rw c.in-Dacl.is done

pub returns-in-Sacl-clause-writes : goal.returns-in-Sacl-clause-writes
returns-in-Sacl-clause-writes g c =
    let old = state g.S.Store c.args.tx.now.conn.now in
    let new = state g.S.Store c.execute-in-Sacl.new.self.conn.now in
    let cell = Int c.args.list.now.flags ∷ Text (string_bytes c.args.list.now.own)
    ∷ Text (string_bytes c.args.list.now.inh) ∷ [] in
    let change = sets_held Sacl c.args.list.now.flags (string_bytes c.args.list.now.own)
    (string_bytes c.args.list.now.inh) in
    let given = rw (passed_on _ _ c.in_ok-row.ensures) at c.params-to_sql-in-Sacl.ensures in
    let runs = simp (
      given,
      c.params-to_sql-in-Sacl-2.ensures,
      c.params-to_sql-in-Sacl-3.ensures,
      c.params-to_sql-in-Sacl-4.ensures,
    ) at c.execute-in-Sacl.ensures.runs in
    let done : ExecutesSql (OfRow c.args.id (Recasts change)) old new c.execute-in-Sacl.result =
    writes sacl_text (Int (pos c.args.id) ∷ cell) old new c.execute-in-Sacl.result _ _
    c.execute-in-Sacl.ensures.survives
    (recast_room sacl_text sacl_terms sacl_is plain_sacl (pos c.args.id) cell change (λ r. refl)
    (search (rules, holding_printed, c.requires.1.own, c.requires.1.inh)) old new)
    (search (rules, c.in_ok-row.ensures.2, recast_one, sacl_is, plain_sacl, old, new))
    (ended (state g.S.Store) _ _ _ _ _ c.execute-in-Sacl.ensures.ended) runs in
    rw c.in-Sacl.is done
