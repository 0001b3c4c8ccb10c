use Rattle.cli_act.proofs.doing.migrate.Goals as goal
use Rattle.std.proofs.Common.{arith, rules}

pub returns-in-Ok : goal.returns-in-Ok
returns-in-Ok g c =
    grind (arith, c.into_conn.ensures.same, c.in-Ok.ensures.migrated)

pub returns-in-Err : goal.returns-in-Err
returns-in-Err g c =
    search (rules, c.in-Err.ensures.back, c.not_migrated.ensures)
