use Rattle.std.proofs.Common.{arith, subst, rules}
use Rattle.sqlite.specs.Held.{state}
use Rattle.store_tables.{specs.{Columns.Recalls, Statements.ExecutesSql}, proofs.Noting.noted_rows}
use Rattle.store_tables.proofs.keeper.put_record.Goals as goal

pub returns-clause-puts : goal.returns-clause-puts
returns-clause-puts g c =
    let old = state g.S.Store c.args.keeper.now.tx.now.conn.now in
    let new = state g.S.Store c.insert_record-done.new.tx.conn.now in
    let row = c.args.row.now in
    let record' = c.in-Some.record in
    let recalls : Recalls row record' = rw c.in-Some.is at c.in_ok-record.ensures in
    let came = c.in_ok-or_blamed.ensures in
    let writes = subst (ExecutesSql _ old new) came.answer c.insert_record-done.ensures.writes in
    record {
      stays = writes.stays;
      no_less = came.no_less;
      unfailed = came.unfailed;
      fault = tt;
      becomes =
          λ trust. search (rules, noted_rows, row, record', recalls, writes.leaves, trust.clean);
    }

pub insert_record-done-requires : goal.insert_record-done-requires
insert_record-done-requires g c =
    grind (arith, c.in-Some.record, c.in-Some.is, c.in_ok-record.ensures)
