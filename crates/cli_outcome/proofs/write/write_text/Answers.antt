use Rattle.std.proofs.{Common.{◌-◌, length, drop, arith}, lemmas.List.{length-take, length-drop}}
use Rattle.cli_outcome.proofs.KnownBytes.{WritesSome-at}
use Rattle.room_entry.proofs.Facts.KnownBytes.{Appends-at, Keeps-zero}
use Rattle.cli_outcome.proofs.write.write_text.Goals as goal

pub returns-then-count-eq0-clause-err : goal.returns-then-count-eq0-clause-err
returns-then-count-eq0-clause-err g c =
    WritesSome-at _ _ _ _ _ c.writing.invariant.1
    (Keeps-zero _ _ _ _ c.if-count-eq0.true c.in-Ok.ensures.bytes)

pub writing-preserved : goal.writing-preserved
writing-preserved g c =
    let text = c.args.text.now in
    let a = length-take (length text - c.writing.index) (drop c.writing.index text) in
    let b = length-drop c.writing.index text in (
      omega (arith, a, b, c.in-Ok.ensures.bound, c.writing.invariant.0),
      Appends-at _ _ _ _ _ _ c.writing.invariant.1 c.in-Ok.ensures.bytes,
    )

pub returns-in-Err-clause-err : goal.returns-in-Err-clause-err
returns-in-Err-clause-err g c = WritesSome-at _ _ _ _ _ c.writing.invariant.1 c.in-Err.ensures.bytes
