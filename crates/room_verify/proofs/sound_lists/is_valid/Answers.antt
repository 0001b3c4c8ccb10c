use Rattle.std.proofs.Common.{rules, ◌≡◌, Option, Some, None, Result, Ok, Err, MatchOption, ap}
use Rattle.std.specs.Prelude.{is_none, is_ok}
use Rattle.room_entry.specs.declared.fault.ListFault.{ListFault}
use Rattle.room_verify.proofs.sound_lists.is_valid.Goals as goal

passes : (o : Option ListFault) (r : Result (Unit {0}) ListFault)
    → MatchOption o (r ≡ Ok tt) (λ fault. r ≡ Err fault) → is_ok r ≡ is_none o
passes None r is = ap is_ok is
passes (Some fault) r is = ap is_ok is

pub returns : goal.returns
returns c = search (rules, c.is_ok.ensures.value, passes, c.valid.ensures)
