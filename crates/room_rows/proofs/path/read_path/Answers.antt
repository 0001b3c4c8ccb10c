use Rattle.std.proofs.Common.{arith, rules}
use Rattle.room_rows.proofs.Cutting.{read_as_names, not_utf8}
use Rattle.room_rows.proofs.path.read_path.Goals as goal

pub returns-in-Ok : goal.returns-in-Ok
returns-in-Ok c =
    let is = c.in-Ok.ensures.cases in
    grind (arith, is.0, read_as_names, c.if-bytes-gt-LONGEST_PATH.false, is.1, c.read_names.ensures)

pub returns-in-Err : goal.returns-in-Err
returns-in-Err c =
    search (rules, c.in-Err.ensures.cases, not_utf8, c.if-bytes-gt-LONGEST_PATH.false)
