use Rattle.cli_words.proofs.Taking.{unread, whole}
use Rattle.cli_words.proofs.task.read_task.Goals as goal
use Rattle.std.proofs.Common.{rules}

pub returns-in-Ok-clause-task : goal.returns-in-Ok-clause-task
returns-in-Ok-clause-task g c =
    whole c.args.job.now
    (g.R.Read.remaining c.args.reader.now) c.in-Ok.input.items c.most_of.result c.task_in.result
    c.most_of.ensures c.in-Ok.ensures.front (rw c.as_slice.ensures.value at c.task_in.ensures)

pub returns-in-Err-clause-task : goal.returns-in-Err-clause-task
returns-in-Err-clause-task g c =
    search (rules, unread, c.of_stream.ensures.stream)
