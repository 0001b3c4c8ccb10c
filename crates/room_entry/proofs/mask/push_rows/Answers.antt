use Rattle.std.proofs.Common.{rules}
use Rattle.std.proofs.{Common.{ℕ, ◌++◌, List, ap, sym, ◌∙◌, string_bytes}, lemmas.List.append-nil}
use Rattle.room_entry.proofs.Letters.{row_at, table_text_pushed, table_text_passed, table_text_all}
use Rattle.room_entry.proofs.mask.push_rows.Goals.{then-is_set+in_ok-push, else-is_set}
use Rattle.room_entry.proofs.mask.push_rows.Goals as goal

pub is_set-requires : goal.is_set-requires
is_set-requires c = (row_at c.args.rows.now c.loop-bit.bit-index c.loop-bit-test.true c.requires).0

pub loop-bit-preserved : goal.loop-bit-preserved
loop-bit-preserved c =
    let rows = c.args.rows.now in
    let i = c.loop-bit.bit-index in
    elim c.if-is_set.branch [
      | then-is_set+in_ok-push w ↦
          table_text_pushed c.args.bits rows i (string_bytes c.loop-bit.text)
          (string_bytes c.if-is_set.text) c.loop-bit-test.true
          (sym c.is_set.ensures ∙ w.if-is_set.true)
          (ap string_bytes w.text-is ∙ w.in_ok-push.ensures.bytes
          ∙ ap (λ (l : List ℕ). string_bytes c.loop-bit.text ++ l)
          (w.in_ok-push.ensures.ascii (row_at rows i c.loop-bit-test.true c.requires).1))
          ∙ c.loop-bit.invariant
      | else-is_set w ↦
          table_text_passed c.args.bits rows i (string_bytes c.loop-bit.text)
          (string_bytes c.if-is_set.text) c.loop-bit-test.true
          (sym c.is_set.ensures ∙ w.if-is_set.false) (ap string_bytes w.text-is)
          ∙ c.loop-bit.invariant
    ]

pub returns : goal.returns
returns c =
    sym (search (rules, table_text_all, c.loop-bit-test.false, append-nil)) ∙ c.loop-bit.invariant
