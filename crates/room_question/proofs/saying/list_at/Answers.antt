use Rattle.std.proofs.Common.{arith}
use Rattle.room_question.proofs.Faulty.{fault-near}
use Rattle.room_question.proofs.saying.list_at.Goals as goal

pub overflow_add-item : goal.overflow_add-item
overflow_add-item c =
    let read = rw c.in-Err-Fault.field-0-is at c.in-Err-Fault.ensures in
    let near = fault-near c.args.item.now.below.now c.in-Err-Fault.fault read in
    omega arith
