use Rattle.std.proofs.Common.{rules, ap, ◌∙◌}
use Rattle.store_schema.specs.NewRoom.{number_shown}
use Rattle.sqlite.specs.Held.{state}
use Rattle.store_schema.proofs.{Asked.{asks_err, asks_ok}, Unread.asks_fails}
use Rattle.store_schema.proofs.version.ask_version.Goals as goal

pub returns-in-Ok-clause-asks : goal.returns-in-Ok-clause-asks
returns-in-Ok-clause-asks g c =
    asks_ok (state g.S.Store c.args.tx.now.conn.now)
    (state g.S.Store c.query_all.new.self.conn.now) c.query_all.ensures.survives c.in-Ok.rows
    c.number_in.result (c.number_in.ensures ∙ ap number_shown c.as_slice.ensures.value)
    c.in-Ok.ensures.ok

pub returns-in-Err-clause-asks : goal.returns-in-Err-clause-asks
returns-in-Err-clause-asks g c =
    asks_err (state g.S.Store c.args.tx.now.conn.now)
    (state g.S.Store c.query_all.new.self.conn.now) c.query_all.ensures.survives
    c.in-Err.error c.open_fault.result c.open_fault.ensures.called c.in-Err.ensures.err

pub returns-in-Err-clause-fails : goal.returns-in-Err-clause-fails
returns-in-Err-clause-fails g c =
    search (rules, asks_fails, c.open_fault.ensures.fault, c.in-Err.ensures.err)
