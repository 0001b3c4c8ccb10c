use Rattle.std.proofs.Common.{[], arith}
use Rattle.sqlite.specs.Held.{state}
use Rattle.store_tables.proofs.{Asked.asks, Bare.reads_by}
use Rattle.store_admin.proofs.{Answered.answered, Members.{bare_members, fails_members}}
use Rattle.store_admin.proofs.Members.{members_text, shows_members}
use Rattle.store_admin.proofs.operating.select_members.Goals as goal

pub returns-clause-asks : goal.returns-clause-asks
returns-clause-asks g c =
    let old = state g.S.Store c.args.tx.now.conn.now in
    let new = state g.S.Store c.query_all.new.self.conn.now in
    asks members_text [] old new c.query_all.result _ (reads_by members_text bare_members)
    c.query_all.ensures.survives
    (λ rows room. shows_members old new rows room) c.query_all.ensures.ok c.query_all.ensures.err

pub returns-clause-opens : goal.returns-clause-opens
returns-clause-opens g c =
    answered members_text [] (state g.S.Store c.args.tx.now.conn.now)
    (state g.S.Store c.query_all.new.self.conn.now) c.query_all.result c.query_all.ensures.ok

pub returns-clause-fails : goal.returns-clause-fails
returns-clause-fails g c =
    grind (arith, fails_members, c.query_all.ensures.err)
