use Rattle.std.proofs.Common.{◌≤◌, arith, length}
use Rattle.std.proofs.lemmas.List.{length-take-le}
use Rattle.room_question.proofs.reading.read_question.Goals as goal

pub count_lines-line-requires : goal.count_lines-line-requires
count_lines-line-requires c =
    let bytes = c.args.bytes.now in
    let least : 4194305 ≤ length bytes = omega arith in
    let cut = length-take-le 4194305 bytes least in
    omega arith
