use Rattle.std.proofs.Common.{arith, rules, ◌≡◌, ap, ◌∙◌}
use Rattle.room_rows.specs.{declared.node.Node.Node, Held.with_held}
use Rattle.room_judge.proofs.{Calls.none_done, UpTo.tail_provided}
use Rattle.room_desk.proofs.Lists.SettingCalls.{carried_as, loop_as}
use Rattle.room_desk.proofs.setting.carry_on.Goals as goal

pub returns : goal.returns
returns g c =
    let m = g.met.K.Keep in
    let setting = c.args.setting.now in
    let start = c.set_held.new.self in
    let node = with_held setting.which c.args.held setting.target.now.node in
    let same : start ≡ node = c.set_held.ensures
    ∙ ap (λ (n : Node). with_held setting.which c.args.held n) c.in_ok-start.ensures in
    record {
      done =
          tail_provided m.laws (none_done m.laws c.args.keep.now) c.carry_from.ensures.done
          (λ old mid at are unread h. loop_as start node old mid at same unread h)
          (search (rules, carried_as, start, node, same)) (grind (arith, same));
      counted = c.carry_from.ensures.counted;
    }
