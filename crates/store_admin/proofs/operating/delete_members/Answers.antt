use Rattle.std.proofs.Common.{[], arith}
use Rattle.sqlite.specs.Held.{state}
use Rattle.store_tables.proofs.Asked.{writes}
use Rattle.store_admin.proofs.Exchanging.{empty_room, empty_text, emptied}
use Rattle.store_admin.proofs.operating.delete_members.Goals as goal

pub returns-clause-writes : goal.returns-clause-writes
returns-clause-writes g c =
    let old = state g.S.Store c.args.tx.now.conn.now in
    let new = state g.S.Store c.execute.new.self.conn.now in
    writes empty_text [] old new c.execute.result _ _ c.execute.ensures.survives
    (λ inside. empty_room old new inside)
    (λ count room h. (emptied old new count room h).puts)
    (λ off. (
      (c.execute.ensures.ended off).0,
      grind (arith, c.execute.ensures.ended),
    )) c.execute.ensures.runs
