use Rattle.std.proofs.Common.{List, Some, sym, ap, ◌∙◌}
use Rattle.room_entry.{specs.Ace.Ace, proofs.Same.entries_equal}
use Rattle.room_ace.specs.{Column.entries_of, Lists.entry_lines}
use Rattle.store_tables.proofs.recent.PrintedText.spelling.Goals as goal

pub returns-then-is_same : goal.returns-then-is_same
returns-then-is_same c = (
  c.in_ok-from_str.ensures.ok ∙ c.as_str.ensures.value ∙ c.self.invariant.0.0
      ∙ ap entry_lines (entries_equal _ _ (sym c.is_same.ensures ∙ c.if-is_same.true)),
  ap entries_of (c.in_ok-from_str.ensures.ok ∙ c.as_str.ensures.value) ∙ c.self.invariant.0.1
      ∙ ap (λ (entries : List Ace). Some entries)
      (entries_equal _ _ (sym c.is_same.ensures ∙ c.if-is_same.true)),
)
