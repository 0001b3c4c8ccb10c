use Rattle.std.proofs.{Common.{arith, refl, sym, ◌∙◌, inl, inr}, lemmas.Bool.false≢true}
use Rattle.std.specs.Option.{option_copied}
use Rattle.room_judge.proofs.Calls.{none_done, memory, finish, tail_known}
use Rattle.room_desk.proofs.Lists.SettingCalls.{fails_before, list_sent, set_from, written_as}
use Rattle.room_desk.proofs.setting.set_at.Goals as goal

pub returns-in_err-inh-clause-done : goal.returns-in_err-inh-clause-done
returns-in_err-inh-clause-done g c =
    let laws = g.met.K.Keep.laws in
    memory laws (none_done laws c.args.keep.now) c.from_residual.result c.from_residual.ensures.1

pub returns-in_err-own-clause-done : goal.returns-in_err-own-clause-done
returns-in_err-own-clause-done g c =
    grind (arith, g.met.K.Keep.laws, memory, none_done, c.from_residual-in_err-own.ensures.1)

pub returns-then-is_same_list-clause-done : goal.returns-then-is_same_list-clause-done
returns-then-is_same_list-clause-done g c =
    let laws = g.met.K.Keep.laws in
    let setting = c.args.setting.now in
    let sent =
    list_sent setting.sent.now c.flags-flags.result c.in_ok-own.own c.in_ok-inh.inh
    c.flags-flags.ensures c.in_ok-own.ensures in
    finish laws tt (none_done laws c.args.keep.now) (λ old new are same.
    set_from setting.which setting.sent.now setting.target.now.node (option_copied setting.above)
    c.in_ok-inh.inh old old new are c.in_ok-inh.ensures refl
    (inl (sym sent ∙ c.is_same_list.ensures.0 c.if-is_same_list.true ∙ c.held.ensures, same)))

pub returns-in_err-held-clause-done : goal.returns-in_err-held-clause-done
returns-in_err-held-clause-done g c =
    grind (arith, g.met.K.Keep.laws, memory, none_done, c.from_residual-in_err-held.ensures.1)

pub returns : goal.returns
returns g c =
    let m = g.met.K.Keep in
    let setting = c.args.setting.now in
    let node = setting.target.now.node in
    let sent =
    list_sent setting.sent.now c.flags-flags.result c.in_ok-own.own c.in_ok-inh.inh
    c.flags-flags.ensures c.in_ok-own.ensures in
    record {
      done = tail_known m.laws (none_done m.laws c.args.keep.now) c.write_list.ensures.done
          (λ old mid at are same h. fails_before node old mid at same h)
          (λ old mid x new are same written.
          set_from setting.which setting.sent.now node (option_copied setting.above)
          c.in_ok-inh.inh old mid new are c.in_ok-inh.ensures same
          (inr (written_as setting.which node c.in_ok-held.held _ mid mid new
          (c.in_ok-held.ensures ∙ sent) refl written)));
      quiet =
          λ same. absurd
          (false≢true (sym c.if-is_same_list.false
          ∙ c.is_same_list.ensures.1 (grind (arith, sent, c.in_ok-inh.ensures, c.held.ensures))));
      counted = c.write_list.ensures.counted;
    }
