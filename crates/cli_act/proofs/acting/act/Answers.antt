use Rattle.sqlite.specs.Held.{state}
use Rattle.cli_act.proofs.{Ended.does_ended, Outlasting.does_outlast}
use Rattle.cli_act.proofs.acting.act.Goals as goal
use Rattle.std.proofs.Common.{rules}

pub returns-clause-acts : goal.returns-clause-acts
returns-clause-acts g c =
    search (rules, c.do_task-conn.ensures, c.tell-status.ensures)

pub returns-clause-ended : goal.returns-clause-ended
returns-clause-ended g c =
    does_ended (state g.S.Store) c.args.task.now c.args.conn c.do_task-conn.result.0
    c.do_task-conn.result.1 c.do_task-conn.ensures

pub returns-clause-outlasts : goal.returns-clause-outlasts
returns-clause-outlasts g c =
    does_outlast (state g.S.Store) c.args.task.now c.args.conn c.do_task-conn.result.0
    c.do_task-conn.result.1 c.do_task-conn.ensures
