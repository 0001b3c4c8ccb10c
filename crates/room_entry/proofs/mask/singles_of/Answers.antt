use Rattle.std.proofs.{Common.{ℕ, [], ◌∷◌, ◌++◌, List, ap, ◌∙◌, eq-eqb}, lemmas.Bool.ne_eqb}
use Rattle.room_entry.proofs.Singles.{single_at, singles_passed, singles_pushed}
use Rattle.room_entry.proofs.mask.singles_of.Goals.{then-bits-bit-eq1+in_ok-push, else-bits-bit-eq1}
use Rattle.room_entry.proofs.mask.singles_of.Goals as goal

pub loop-bit-preserved : goal.loop-bit-preserved
loop-bit-preserved c =
    let rows = c.args.rows.now in
    let i = c.loop-bit.bit-index in
    elim c.if-bits-bit-eq1.branch [
      | then-bits-bit-eq1+in_ok-push w ↦
          singles_pushed c.args.bits rows i c.loop-bit.masks.items c.if-bits-bit-eq1.masks.items
          c.loop-bit-test.true (eq-eqb _ _ w.if-bits-bit-eq1.true)
          (ap (λ m. m.items) w.masks-is ∙ w.in_ok-push.ensures.items
          ∙ ap (λ (m : List ℕ). c.loop-bit.masks.items ++ m ∷ [])
          (single_at rows i c.loop-bit-test.true c.requires).alone)
          ∙ c.loop-bit.invariant
      | else-bits-bit-eq1 w ↦
          singles_passed c.args.bits rows i c.loop-bit.masks.items c.if-bits-bit-eq1.masks.items
          c.loop-bit-test.true (ne_eqb _ _ w.if-bits-bit-eq1.false) (ap (λ m. m.items) w.masks-is)
          ∙ c.loop-bit.invariant
    ]
