use Rattle.std.proofs.Common.{rules, ◌∷◌, [], refl, pos}
use Rattle.sqlite.specs.{declared.types.Value.TheVariants.{Int, Text}, Held.state}
use Rattle.store_tables.specs.Shown.{sets_place}
use Rattle.store_tables.proofs.{Asked.{ended, writes}, Printed.lying_printed, Recast.recast_one}
use Rattle.store_tables.proofs.{Recast.recast_room, Rowids.passed_on, Texts.{place_is, place_terms}}
use Rattle.store_tables.proofs.Texts.{place_text, plain_place}
use Rattle.store_tables.proofs.statements.update_place.Goals as goal

pub returns-clause-writes : goal.returns-clause-writes
returns-clause-writes g c =
    let old = state g.S.Store c.args.tx.now.conn.now in
    let new = state g.S.Store c.execute.new.self.conn.now in
    let cell = Int (pos c.args.parent) ∷ Text c.args.name.now ∷ [] in
    let change = sets_place (pos c.args.parent) c.args.name.now in
    let given = rw (passed_on _ _ c.in_ok-row.ensures) at c.params-to_sql.ensures in
    let under = rw (passed_on _ _ c.in_ok-under.ensures) at c.params-to_sql-2.ensures in
    let runs = rw (given, under, c.params-to_sql-3.ensures) at c.execute.ensures.runs in
    writes place_text (Int (pos c.args.id) ∷ cell) old new c.execute.result _ _
    c.execute.ensures.survives
    (recast_room place_text place_terms place_is plain_place (pos c.args.id) cell change
    (λ r. refl) (lying_printed (pos c.args.parent) c.args.name.now) old new)
    (λ count room h one. (
      c.in_ok-row.ensures.2,
      search (rules, recast_one, place_is, plain_place, old, new),
    ))
    (ended (state g.S.Store) _ _ _ _ _ c.execute.ensures.ended) runs
