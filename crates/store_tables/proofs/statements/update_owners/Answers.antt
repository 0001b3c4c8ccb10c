use Rattle.std.proofs.Common.{rules, ◌∷◌, [], refl, pos}
use Rattle.sqlite.specs.{declared.types.Value.TheVariants.{Int, Text}, Held.state}
use Rattle.store_tables.specs.Shown.{sets_owners}
use Rattle.store_tables.proofs.{Asked.{ended, writes}, Printed.owning_printed, Recast.recast_one}
use Rattle.store_tables.proofs.{Recast.recast_room, Rowids.passed_on, Texts.owners_is}
use Rattle.store_tables.proofs.Texts.{owners_terms, owners_text, plain_owners}
use Rattle.store_tables.proofs.statements.update_owners.Goals as goal

pub returns-clause-writes : goal.returns-clause-writes
returns-clause-writes g c =
    let old = state g.S.Store c.args.tx.now.conn.now in
    let new = state g.S.Store c.execute.new.self.conn.now in
    let cell = Text c.args.owner.now ∷ Text c.args.group.now ∷ [] in
    let change = sets_owners c.args.owner.now c.args.group.now in
    let given = rw (passed_on _ _ c.in_ok-row.ensures) at c.params-to_sql.ensures in
    let runs =
    rw (given, c.params-to_sql-2.ensures, c.params-to_sql-3.ensures) at c.execute.ensures.runs
    in
    writes owners_text (Int (pos c.args.id) ∷ cell) old new c.execute.result _ _
    c.execute.ensures.survives
    (recast_room owners_text owners_terms owners_is plain_owners (pos c.args.id) cell change
    (λ r. refl) (owning_printed c.args.owner.now c.args.group.now) old new)
    (λ count room h one. (
      c.in_ok-row.ensures.2,
      search (rules, recast_one, owners_is, plain_owners, old, new),
    ))
    (ended (state g.S.Store) _ _ _ _ _ c.execute.ensures.ended) runs
