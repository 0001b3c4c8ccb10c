use Rattle.cli_check.proofs.Below.{list_below-read, list_below-fault, fault-most}
use Rattle.cli_check.proofs.question.list_in.Goals as goal
use Rattle.std.proofs.Common.{rules}

pub overflow_add-result : goal.overflow_add-result
overflow_add-result c =
    search (rules, fault-most, c.in-Err-Fault.fault.line, c.in-Err-Fault.fault)

pub returns-in-Ok : goal.returns-in-Ok
returns-in-Ok c = list_below-read c.args.bytes.now c.in-Ok.list c.in-Ok.ensures

pub returns-in-Err-Fault : goal.returns-in-Err-Fault
returns-in-Err-Fault c =
    let read = rw c.in-Err-Fault.field-0-is at c.in-Err-Fault.ensures in
    list_below-fault c.args.bytes.now c.in-Err-Fault.fault read
