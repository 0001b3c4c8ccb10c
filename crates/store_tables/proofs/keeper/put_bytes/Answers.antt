use Rattle.std.proofs.Common.{subst, arith}
use Rattle.sqlite.specs.Held.{state}
use Rattle.store_tables.specs.Statements.{ExecutesSql}
use Rattle.store_tables.proofs.keeper.put_bytes.Goals as goal

pub returns-clause-puts : goal.returns-clause-puts
returns-clause-puts g c =
    let old = state g.S.Store c.args.keeper.now.tx.now.conn.now in
    let new = state g.S.Store c.insert_bytes.new.tx.conn.now in
    let came = c.in_ok-or_blamed.ensures in
    let writes = subst (ExecutesSql _ old new) came.answer c.insert_bytes.ensures.writes in
    record {
      stays = writes.stays;
      no_less = came.no_less;
      unfailed = came.unfailed;
      fault = tt;
      becomes = grind (arith, c.if-not-is_document.false, c.is_document.ensures, writes.leaves);
    }
