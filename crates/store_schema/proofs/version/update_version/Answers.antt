use Rattle.std.proofs.Common.{subst, sym}
use Rattle.sqlite.specs.Held.{state}
use Rattle.store_tables.specs.Within.{IsWithin, within_itself}
use Rattle.store_schema.proofs.Stamped.{stamps}
use Rattle.store_schema.proofs.version.update_version.Goals as goal

pub returns-clause-stamps : goal.returns-clause-stamps
returns-clause-stamps g c =
    let old = state g.S.Store c.args.tx.now.conn.now in
    let new = state g.S.Store c.execute.new.self.conn.now in
    stamps old new c.execute.ensures.survives c.execute.result _
    (λ off. (
      (c.execute.ensures.ended off).0,
      subst (λ h. IsWithin old (state g.S.Store h)) (sym (c.execute.ensures.ended off).1)
          (within_itself old),
    )) c.execute.ensures.runs
