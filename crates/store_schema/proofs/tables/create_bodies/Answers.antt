use Rattle.std.proofs.Common.{[], subst, sym}
use Rattle.sqlite.specs.Held.{state}
use Rattle.store_tables.specs.Within.{IsWithin, within_itself}
use Rattle.store_schema.proofs.{Creates.makes_bodies, Texts.bodies_text, Within.makes_by}
use Rattle.store_schema.proofs.tables.create_bodies.Goals as goal

pub returns-clause-makes : goal.returns-clause-makes
returns-clause-makes g c =
    let old = state g.S.Store c.args.tx.now.conn.now in
    let new = state g.S.Store c.execute.new.self.conn.now in
    makes_by old new c.execute.ensures.survives bodies_text [] c.execute.result _ _ _
    (λ off. (
      (c.execute.ensures.ended off).0,
      subst (λ h. IsWithin old (state g.S.Store h)) (sym (c.execute.ensures.ended off).1)
          (within_itself old),
    )) c.execute.ensures.runs (makes_bodies old new)
