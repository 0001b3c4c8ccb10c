use Rattle.std.proofs.{Common.{rules, ◌+◌, arith}, lemmas.Int.to_z-of_z}
use Rattle.room_judge.proofs.Calls.{tail, done, of_read}
use Rattle.room_sound.proofs.Blamed.{damaged_before}
use Rattle.room_desk.proofs.{Steps.InTurn.performed, Writes.Reading.reads_before}
use Rattle.room_desk.specs.Called.{calls_for, hands_down}
use Rattle.room_desk.proofs.performing.perform.Goals as goal

pub returns : goal.returns
returns g c =
    let k = g.K.Keep in
    let m = g.met.K.Keep in
    record {
      done =
          tail m.laws (done (of_read c.in_ok-caller.ensures.read)) c.perform_for.ensures.done
          (λ old mid at both damaged. damaged_before old mid at both.1 damaged)
          (search (rules, performed, to_z-of_z, c.ranges.moment));
      counted =
          reads_before k (hands_down c.args.request.now) c.perform_for.result c.args.keep.now
          c.caller_of.new.keep c.perform_for.new.keep 1 (calls_for c.args.request.now)
          (calls_for c.args.request.now + 1) c.in_ok-caller.ensures.counted
          (m.laws.grow _ _ c.in_ok-caller.ensures.read.follows) (omega arith)
          c.perform_for.ensures.counted;
    }
