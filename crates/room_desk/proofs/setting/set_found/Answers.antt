use Rattle.std.{proofs.Common.{◌≡◌, None, sym, ap, subst, ◌∙◌}, specs.Option.option_map_or}
use Rattle.room_machine.specs.declared.reply.Reply.TheVariants.{Done, Refused}
use Rattle.room_judge.proofs.{Calls.done, UpTo.finish_up_to}
use Rattle.room_desk.specs.Setting.{SetUnless, fault_in}
use Rattle.room_desk.proofs.setting.set_found.Goals as goal

pub returns-in_ok-set_at-in-None : goal.returns-in_ok-set_at-in-None
returns-in_ok-set_at-in-None g c =
    let setting = c.args.setting.now in
    let node = setting.target.now.node in
    let none : None ≡ fault_in 1 setting.which node.kind setting.sent.now.entries =
    sym c.in-None.is ∙ c.bad_entry-fault.ensures
    ∙ ap (fault_in 1 setting.which node.kind) (c.as_slice.ensures ∙ c.entries.ensures.list) in
    record {
      done = finish_up_to g.met.K.Keep.laws Done (done c.in_ok-set_at-in-None.ensures.done)
          (λ old new are set up. record {
            replies = ap (λ o. option_map_or (λ why. Refused setting.path.now why) o Done) none;
            few = c.entries.ensures.within;
            becomes =
                subst (λ o. SetUnless o setting.which setting.sent.now node old new) none (set up);
          });
      counted = c.in_ok-set_at-in-None.ensures.counted;
    }
