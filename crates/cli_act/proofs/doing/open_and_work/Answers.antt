use Rattle.std.proofs.Common.{inl, arith}
use Rattle.cli_act.proofs.doing.open_and_work.Goals as goal

pub returns-in-Ok : goal.returns-in-Ok
returns-in-Ok g c =
    inl (record {
      mid = c.in-Ok.store.conn;
      opens = c.in-Ok.ensures.opened;
      works = rw c.into_conn.ensures.same c.work-outcome.ensures;
    })

pub returns-in-Err : goal.returns-in-Err
returns-in-Err g c =
    grind (arith, c.in-Err.fault, c.in-Err.ensures.back, c.not_opened.ensures)
