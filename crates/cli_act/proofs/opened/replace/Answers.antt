use Rattle.std.proofs.Common.{Err, rules}
use Rattle.store_transaction.specs.declared.fault.StoreFault.TheVariants.{Memory}
use Rattle.room_store.specs.Lasting.{itself}
use Rattle.cli_act.proofs.Unrun.{unrun}
use Rattle.cli_act.proofs.opened.replace.Goals as goal

pub returns-in_err-groups : goal.returns-in_err-groups
returns-in_err-groups g c =
    record {
      result = Err Memory;
      ran = unrun _ _ _;
      alone = λ _. tt;
      leads = itself _;
      told = search rules;
    }
