use Rattle.std.proofs.Common.{ℕ, ◌≡◌, [], ◌∷◌, ◌++◌, List, ap, ◌∙◌, get_or}
use Rattle.room_eval.specs.{declared.outcome.Ruling.Ruling, Verdict.ruling_of}
use Rattle.room_rows.specs.Held.{full_of}
use Rattle.room_desk.proofs.Steps.AskedBits.{asked_more, is_asked}
use Rattle.room_desk.proofs.asking.rulings_of.Goals as goal

pub ruling_on-requires : goal.ruling_on-requires
ruling_on-requires c =
    let asked =
    is_asked c.args.mask c.as_slice-bit-items.result.now c.bits.bit-index c.bit-item.result
    (c.as_slice-bit-items.ensures.value ∙ c.in_ok-bits.ensures) c.bits-test.true c.bit-item.is
    in
    (get_or c.args.mask c.bits.bit-index 0, asked.alone)

pub bits-preserved : goal.bits-preserved
bits-preserved c =
    let mask = c.args.mask in
    let i = c.bits.bit-index in
    let asked = is_asked mask c.as_slice-bit-items.result.now i c.bit-item.result
    (c.as_slice-bit-items.ensures.value ∙ c.in_ok-bits.ensures) c.bits-test.true c.bit-item.is
    in
    let ruled : ℕ → List ℕ × Ruling = λ bit. (
      bit ∷ [],
      ruling_of (full_of c.args.node.now.dacl) c.args.ask.now.asker.now.caller
          c.args.node.now.owners bit,
    ) in
    let pair : (c.bit-item.result, c.ruling_on.result) ≡ ruled (get_or mask i 0) = ap
    (λ m. (m, c.ruling_on.result)) asked.alone
    ∙ ap (λ r. (get_or mask i 0 ∷ [], r)) (c.ruling_on.ensures (get_or mask i 0) asked.alone) in
    asked_more ruled mask i c.bits.items.items c.push.new.self.items asked.below
    (c.in_ok-push.ensures.items ∙ ap (λ p. c.bits.items.items ++ p ∷ []) pair) ∙ c.bits.invariant
