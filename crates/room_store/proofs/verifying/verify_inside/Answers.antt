use Rattle.sqlite.specs.Held.{state}
use Rattle.room_store.proofs.Counted.{tested, untested}
use Rattle.room_store.proofs.verifying.verify_inside.Goals as goal

pub returns-in-Ok-verify_rows-clause-carries : goal.returns-in-Ok-verify_rows-clause-carries
returns-in-Ok-verify_rows-clause-carries g c =
    tested (state g.S.Store c.args.tx.now.conn.now) (state g.S.Store c.has_numbers.new.tx.conn.now)
    (state g.S.Store c.verify_rows.new.tx.conn.now) c.in-Ok.has_numbers c.in-Ok.ensures.carries
    c.in-Ok.ensures.same c.in-Ok-verify_rows.report c.in-Ok-verify_rows.ensures.carries

pub returns-in-Err-verify_rows-clause-carries : goal.returns-in-Err-verify_rows-clause-carries
returns-in-Err-verify_rows-clause-carries g c =
    untested (state g.S.Store c.args.tx.now.conn.now)
    (state g.S.Store c.has_numbers.new.tx.conn.now)
    (state g.S.Store c.verify_rows.new.tx.conn.now) c.in-Ok.has_numbers c.in-Ok.ensures.carries
    c.in-Ok.ensures.same c.in-Err-verify_rows.fault c.in-Err-verify_rows.ensures.carries
