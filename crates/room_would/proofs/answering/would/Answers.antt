use Rattle.room_would.proofs.Told.{answered, refused}
use Rattle.room_would.proofs.answering.would.Goals as goal

pub returns-in-Ok : goal.returns-in-Ok
returns-in-Ok c =
    answered c.args.question.now c.in-Ok.read c.count_lines.result c.answer.result
    c.in-Ok.ensures c.count_lines.ensures c.answer.ensures.told c.answer.ensures.refused

pub returns-in-Err : goal.returns-in-Err
returns-in-Err c =
    refused c.args.question.now c.in-Err.failure c.unread.result c.in-Err.ensures
    c.unread.ensures
