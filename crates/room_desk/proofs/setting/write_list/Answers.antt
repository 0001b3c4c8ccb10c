use Rattle.std.proofs.Common.{rules, sym, ap, arith}
use Rattle.room_entry.specs.declared.flags.ListFlags.{ListFlags}
use Rattle.room_judge.proofs.Calls.{none_done, fails, done, of_change, of_write}
use Rattle.room_judge.proofs.UpTo.{finish_up_to, tail_share}
use Rattle.room_desk.proofs.Lists.SettingCalls.{carried_fails, unread_before, written_down}
use Rattle.room_desk.proofs.Lists.SettingCalls.{set_shares, written_still}
use Rattle.room_desk.proofs.Writes.{Sufficing.{one_changed, one_of_each}, Reading.reads_few}
use Rattle.room_desk.proofs.Writes.Reading.{reads_on, unanswered}
use Rattle.room_rows.specs.Held.{with_held}
use Rattle.room_desk.proofs.setting.write_list.Goals as goal

pub returns-in_err-set_held : goal.returns-in_err-set_held
returns-in_err-set_held g c =
    let k = g.K.Keep in
    let m = g.met.K.Keep in
    let setting = c.args.setting.now in
    let node = setting.target.now.node in
    record {
      done = fails m.laws (none_done m.laws c.args.keep.now)
          (of_write c.in_err-set_held.ensures.written)
          (λ old mid at same h. unread_before node old mid at same h)
          c.from_residual.result c.from_residual.ensures.1;
      counted = grind (arith, unanswered, k, c.set_held.new.self, c.from_residual.ensures.1);
    }

pub returns-then-flags : goal.returns-then-flags
returns-then-flags g c =
    let k = g.K.Keep in
    let m = g.met.K.Keep in
    let setting = c.args.setting.now in
    let node = setting.target.now.node in
    let auto = ap (λ (f : ListFlags). f.auto) (sym c.flags.ensures) in
    record {
      done = tail_share m.laws c.carry_on.result
          (done (of_change c.in_ok-set_held.ensures.written
          (λ old x new more changes enough.
          one_changed node.id (with_held setting.which c.args.held) node old new more changes
          enough.0 enough.1)))
          c.carry_on.ensures.done (search (rules, carried_fails, node))
          (search (rules, written_down, node, c.if-flags.true, auto))
          (λ old mid x new more are changes down enough.
          set_shares setting.which node c.args.held old mid changes new more down enough);
      counted =
          reads_on k c.carry_on.result c.args.keep.now c.set_held.new.self c.carry_on.new.keep 0 2 2
          (omega (arith, c.in_ok-set_held.ensures.unread))
          (m.laws.grow _ _ c.in_ok-set_held.ensures.written.follows) (omega arith)
          c.carry_on.ensures.counted;
    }

pub returns-else-flags : goal.returns-else-flags
returns-else-flags g c =
    let k = g.K.Keep in
    let m = g.met.K.Keep in
    let setting = c.args.setting.now in
    let node = setting.target.now.node in
    let auto = ap (λ (f : ListFlags). f.auto) (sym c.flags.ensures) in
    record {
      done = finish_up_to m.laws tt (done (of_change c.in_ok-set_held.ensures.written
          (λ old x new more changes enough.
          one_changed node.id (with_held setting.which c.args.held) node old new more changes
          enough.0.0 (one_of_each setting.which old new more enough.1))))
          (search (rules, written_still, node, c.if-flags.false, auto));
      counted =
          reads_few k c.args.keep.now c.set_held.new.self 2
          (omega (arith, c.in_ok-set_held.ensures.unread))
          (m.laws.grow _ _ c.in_ok-set_held.ensures.written.follows);
    }
