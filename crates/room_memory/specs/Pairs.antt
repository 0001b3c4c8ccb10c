-- Pairs of group and user in order.
use Rattle.std.specs.Prelude.{ℕ, ◌&&◌, Bool, List}
use Rattle.std.specs.Cmp.Lexicographic.{slice_cmp}
use Rattle.std.specs.Ordering.{nat_cmp, ordering_then}
use Rattle.std.specs.declared.cmp.Ordering.{Ordering}
use Rattle.room_entry.specs.Pieces.{same_text}

-- by group, then by user
abbrev pub pair_cmp : List ℕ × List ℕ → List ℕ × List ℕ → Ordering
pair_cmp a b = ordering_then (slice_cmp nat_cmp a.0 b.0) (slice_cmp nat_cmp a.1 b.1)

abbrev pub is_same_pair : List ℕ × List ℕ → List ℕ × List ℕ → Bool
is_same_pair pair other = same_text other.0 pair.0 && same_text other.1 pair.1
