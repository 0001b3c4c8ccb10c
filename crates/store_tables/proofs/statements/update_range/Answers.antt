use Rattle.std.proofs.Common.{rules, ◌∷◌, [], refl, pos}
use Rattle.sqlite.specs.{declared.types.Value.TheVariants.{Int, Text}, Held.state}
use Rattle.room_entry.specs.declared.object.Which.TheVariants.{Dacl, Sacl}
use Rattle.store_tables.specs.{Shown.{RecastsAll, sets_inh}, Statements.{ExecutesSql, OfRows}}
use Rattle.store_tables.proofs.{Asked.{ended, writes}, Printed.inheriting_printed}
use Rattle.store_tables.proofs.RangeTexts.{dacl_range_is, dacl_range_terms, dacl_range_text}
use Rattle.store_tables.proofs.RangeTexts.{plain_dacl_range, sacl_range_is, sacl_range_terms}
use Rattle.store_tables.proofs.{RangeTexts.{sacl_range_text, plain_sacl_range}, Ranged.range_room}
use Rattle.store_tables.proofs.{Ranged.range_rows, Rowids.passed_on}
use Rattle.store_tables.proofs.statements.update_range.Goals as goal

pub returns-in-Dacl-clause-writes : goal.returns-in-Dacl-clause-writes
returns-in-Dacl-clause-writes g c =
    let old = state g.S.Store c.args.tx.now.conn.now in
    let new = state g.S.Store c.execute.new.self.conn.now in
    let cell = Text c.args.text.now ∷ [] in
    let change = sets_inh Dacl c.args.text.now in
    let from = rw (passed_on _ _ c.in_ok-from.ensures) at c.params-to_sql.ensures in
    let to = rw (passed_on _ _ c.in_ok-to.ensures) at c.params-to_sql-in-Dacl.ensures in
    let done : ExecutesSql (OfRows c.args.first c.args.last (RecastsAll change)) old new c.execute.result =
    writes dacl_range_text
    (Int (pos c.args.first) ∷ Int (pos c.args.last) ∷ cell) old new c.execute.result _ _
    c.execute.ensures.survives
    (range_room dacl_range_text dacl_range_terms dacl_range_is plain_dacl_range (pos c.args.first)
    (pos c.args.last) cell change (λ r. refl) (inheriting_printed Dacl c.args.text.now c.requires) old
    new)
    (search (rules, c.in_ok-from.ensures.2, range_rows, dacl_range_is, plain_dacl_range, old, new))
    (ended (state g.S.Store) _ _ _ _ _ c.execute.ensures.ended) (rw (from, to, c.params-to_sql-in-Dacl-2.ensures) at c.execute.ensures.runs) in
    rw c.in-Dacl.is done

pub returns-in-Sacl-clause-writes : goal.returns-in-Sacl-clause-writes
returns-in-Sacl-clause-writes g c =
    let old = state g.S.Store c.args.tx.now.conn.now in
    let new = state g.S.Store c.execute-in-Sacl.new.self.conn.now in
    let cell = Text c.args.text.now ∷ [] in
    let change = sets_inh Sacl c.args.text.now in
    let from = rw (passed_on _ _ c.in_ok-from.ensures) at c.params-to_sql-in-Sacl.ensures in
    let to = rw (passed_on _ _ c.in_ok-to.ensures) at c.params-to_sql-in-Sacl-2.ensures in
    let done : ExecutesSql (OfRows c.args.first c.args.last (RecastsAll change)) old new c.execute-in-Sacl.result =
    writes sacl_range_text
    (Int (pos c.args.first) ∷ Int (pos c.args.last) ∷ cell) old new c.execute-in-Sacl.result _ _
    c.execute-in-Sacl.ensures.survives
    (range_room sacl_range_text sacl_range_terms sacl_range_is plain_sacl_range (pos c.args.first)
    (pos c.args.last) cell change (λ r. refl) (inheriting_printed Sacl c.args.text.now c.requires) old
    new)
    (search (rules, c.in_ok-from.ensures.2, range_rows, sacl_range_is, plain_sacl_range, old, new))
    (ended (state g.S.Store) _ _ _ _ _ c.execute-in-Sacl.ensures.ended) (rw (from, to, c.params-to_sql-in-Sacl-3.ensures) at c.execute-in-Sacl.ensures.runs) in
    rw c.in-Sacl.is done
