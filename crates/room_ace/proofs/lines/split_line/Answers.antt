use Rattle.std.proofs.{Common.{◌-◌, ◌+◌, ap, sym, length, arith, drop}, lemmas.Bool.eqb-false}
use Rattle.std.proofs.lemmas.List.{take_all, length-drop}
use Rattle.room_ace.proofs.FirstLine.{lines_of-cut, lines_of-uncut}
use Rattle.room_ace.proofs.lines.split_line.Goals as goal

pub returns-in-Some : goal.returns-in-Some
returns-in-Some c =
    let bytes = c.args.bytes.now in
    let i = c.in-Some.end in
    let n = length-drop (i + 1) bytes in
    lines_of-cut bytes c.without_return.result.now _ i c.in-Some.ensures c.without_return.ensures
    (take_all (length bytes - (i + 1)) (drop (i + 1) bytes) (omega arith))

pub returns-in-None : goal.returns-in-None
returns-in-None c =
    let bytes = c.args.bytes.now in
    let n = length-drop (length bytes) bytes in
    lines_of-uncut bytes c.without_return-in-None.result.now _
    (λ none. eqb-false (length bytes) 0 (sym c.if-is_empty.ensures) (ap length none))
    c.in-None.ensures c.without_return-in-None.ensures
    (take_all (length bytes - length bytes) (drop (length bytes) bytes) (omega arith))
