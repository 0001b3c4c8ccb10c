use Rattle.std.proofs.Common.{arith, ℕ, Result, Ok, sym, subst}
use Rattle.room_inherit.specs.{SpreadAll.SpreadsAll, declared.outcome.Spread.Spread}
use Rattle.room_inherit.specs.declared.outcome.SpreadFault.{SpreadFault}
use Rattle.room_inherit.proofs.{BothSwept.{first_fails, second_fails, both_done}, Calls.handed_on}
use Rattle.room_inherit.proofs.spreading.spread_all.Goals as goal

pub returns-in_err-dacls : goal.returns-in_err-dacls
returns-in_err-dacls g c =
    let k = g.K.Keep in
    let a = c.args.keep.now in
    let fault = c.in_err-dacls.field-0.0 in
    record {
      spread = subst (λ (r : Result Spread SpreadFault). SpreadsAll k a c.sweep.new.keep r)
          (sym (handed_on c.from_residual.result fault c.from_residual.ensures.1))
          (first_fails k a c.sweep.new.keep fault c.in_err-dacls.ensures.swept);
    }

pub returns-in_err-sacls : goal.returns-in_err-sacls
returns-in_err-sacls g c =
    let k = g.K.Keep in
    let a = c.args.keep.now in
    let fault = c.in_err-sacls.field-0.0 in
    record {
      spread =
          subst (λ (r : Result Spread SpreadFault). SpreadsAll k a c.sweep-2.new.keep r)
          (grind (arith, handed_on, fault, c.from_residual-in_err-sacls.ensures.1))
          (second_fails k g.met.K.Keep.laws a c.sweep.new.keep c.sweep-2.new.keep
          c.in_ok-dacls.dacls c.in_ok-dacls.ensures.swept fault c.in_err-sacls.ensures.swept);
    }

pub returns : goal.returns
returns g c =
    let k = g.K.Keep in
    let a = c.args.keep.now in
    record {
      spread =
          subst (λ (n : ℕ). SpreadsAll k a c.sweep-2.new.keep (Ok (record { changed = n })))
          (sym c.saturating_add.ensures)
          (both_done k g.met.K.Keep.laws a c.sweep.new.keep c.sweep-2.new.keep c.in_ok-dacls.dacls
          c.in_ok-dacls.ensures.swept c.in_ok-sacls.sacls c.in_ok-sacls.ensures.swept);
    }
