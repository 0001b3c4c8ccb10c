-- Texts in order of their bytes.
use Rattle.std.specs.Prelude.{ℕ, List}
use Rattle.std.specs.Cmp.Lexicographic.{slice_cmp}
use Rattle.std.specs.List.Sorted.{IsSorted}
use Rattle.std.specs.Ordering.{nat_cmp}

-- no text is less than the one before it
abbrev pub AreRising : List (List ℕ) → Type 0
AreRising texts = IsSorted (slice_cmp nat_cmp) texts
