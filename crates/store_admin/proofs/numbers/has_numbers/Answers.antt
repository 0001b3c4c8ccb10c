use Rattle.sqlite.specs.Held.{state}
use Rattle.store_admin.proofs.Numbered.{both, not_both}
use Rattle.store_admin.proofs.numbers.has_numbers.Goals as goal

pub returns-in-Ok-has_object_numbers-clause-carries : goal.returns-in-Ok-has_object_numbers-clause-carries
returns-in-Ok-has_object_numbers-clause-carries g c =
    both (state g.S.Store c.args.tx.now.conn.now)
    (state g.S.Store c.has_record_numbers.new.tx.conn.now)
    (state g.S.Store c.has_object_numbers.new.tx.conn.now) c.in-Ok.records
    c.in-Ok.ensures.carries c.in-Ok.ensures.same c.in-Ok-has_object_numbers.objects
    c.both.result c.both.ensures c.in-Ok-has_object_numbers.ensures.carries

pub returns-in-Err-has_object_numbers-clause-carries : goal.returns-in-Err-has_object_numbers-clause-carries
returns-in-Err-has_object_numbers-clause-carries g c =
    not_both (state g.S.Store c.args.tx.now.conn.now)
    (state g.S.Store c.has_record_numbers.new.tx.conn.now)
    (state g.S.Store c.has_object_numbers.new.tx.conn.now) c.in-Ok.records
    c.in-Ok.ensures.carries c.in-Ok.ensures.same c.in-Err-has_object_numbers.fault
    c.in-Err-has_object_numbers.ensures.carries
