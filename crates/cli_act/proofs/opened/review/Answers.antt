use Rattle.std.proofs.Common.{Err, rules}
use Rattle.store_transaction.specs.declared.fault.StoreFault.TheVariants.{Memory}
use Rattle.room_store.specs.Lasting.{itself}
use Rattle.cli_act.proofs.Unrun.{unlooked}
use Rattle.cli_act.proofs.opened.review.Goals as goal

pub returns-in_err-question : goal.returns-in_err-question
returns-in_err-question g c =
    record { result = Err Memory; looked = unlooked _ _ _; leads = itself _; told = search rules }
