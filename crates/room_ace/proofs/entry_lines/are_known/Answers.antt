use Rattle.std.proofs.{Common.{◌≡◌, get_or, inl, inr, sym, subst, ◌∙◌, arith}, lemmas.Bool.cases_lt}
use Rattle.std.proofs.lemmas.List.{get_or_default}
use Rattle.room_entry.specs.Laws.{IsEntry}
use Rattle.room_ace.proofs.entry_lines.are_known.Goals as goal

pub loop-entry-preserved : goal.loop-entry-preserved
loop-entry-preserved c k d below within =
    let entries = c.args.entries.now in
    let i = c.loop-entry.entry-index in
    elim (cases_lt k i) [
      | inl low ↦ c.loop-entry.invariant k d low within
      | inr high ↦
          let same : k ≡ i = omega (arith, below, high) in
          let item : get_or entries i c.entry-item.result ≡ get_or entries i d =
          get_or_default entries i c.entry-item.result d c.loop-entry-test.true in
          subst (λ j. IsEntry (get_or entries j d)) (sym same)
          (subst IsEntry (c.entry-item.is ∙ item) c.is_known.ensures)
    ]

pub returns : goal.returns
returns c k d within =
    c.loop-entry.invariant k d (omega (arith, c.loop-entry-test.false, within)) within
