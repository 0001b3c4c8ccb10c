use Rattle.room_would.proofs.Told.{fails, tells, undone}
use Rattle.room_would.proofs.answering.answer_from.Goals as goal

pub returns-in-Ok-clause-told : goal.returns-in-Ok-clause-told
returns-in-Ok-clause-told c =
    tells c.args.free.now.unread c.args.free.now.stranger c.args.question.now c.args.before
    c.in_ok-after.after c.as_slice.result.now c.in_ok-after.ensures c.as_slice.ensures
    c.change.new.piece c.in-Ok.ensures.done c.tell.result c.tell.ensures.told

pub returns-in-Ok-clause-refused : goal.returns-in-Ok-clause-refused
returns-in-Ok-clause-refused c =
    fails c.args.free.now.unread c.args.free.now.stranger c.args.question.now c.args.before
    c.in_ok-after.after c.as_slice.result.now c.in_ok-after.ensures c.as_slice.ensures
    c.change.new.piece c.in-Ok.ensures.done c.args.lines c.tell.result c.tell.ensures.refused

pub returns-clause-refused : goal.returns-clause-refused
returns-clause-refused c =
    undone c.args.free.now.unread c.args.free.now.stranger c.args.question.now c.args.before
    c.in_ok-after.after c.as_slice.result.now c.in_ok-after.ensures c.as_slice.ensures
    c.args.lines c.in-Err.failure c.unbuilt.result c.in-Err.ensures.refused c.unbuilt.ensures
