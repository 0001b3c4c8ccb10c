-- The groups of pairs (own).
use Rattle.std.specs.Prelude.{◌≡◌, ◌&&◌, ℕ, Bool, true, not, IsTrue, List, [], ◌∷◌, ◌++◌, take}
use Rattle.std.specs.Prelude.{if◌then◌else◌}
use Rattle.std.specs.List.{list_any}
use Rattle.room_entry.specs.Pieces.{same_text}

-- a group that is there already adds nothing
abbrev pub with_group : List (List ℕ) → List ℕ → List (List ℕ)
with_group before group = if list_any (same_text group) before then before else before ++ group ∷ []

abbrev pub groups_after : List (List ℕ) → List (List ℕ × List ℕ) → List (List ℕ)
groups_after before [] = before
groups_after before (pair ∷ pairs) = groups_after (with_group before pair.0) pairs

-- The groups of the pairs, each once.
abbrev pub distinct_groups : List (List ℕ × List ℕ) → List (List ℕ)
distinct_groups pairs = groups_after [] pairs

-- ---- what they are

-- no group stands again behind itself
abbrev pub are_once : List (List ℕ) → Bool
are_once [] = true
are_once (group ∷ groups) = not (list_any (same_text group) groups) && are_once groups

-- The groups are those of the pairs: whatever is tested, one of the groups passes exactly where the
-- group of a pair does. Each is there once. And the groups of the first pairs are the first of all
-- groups, so they are in the order in which each comes first.
pub record AreGroups (pairs : List (List ℕ × List ℕ)) (groups : List (List ℕ)) : Type 0 where
  pub each : (test : List ℕ → Bool) → list_any test groups ≡ list_any (λ pair. test pair.0) pairs
  pub once : IsTrue (are_once groups)
  pub in_order : (n : ℕ)
      → (late : List (List ℕ)) × (groups ≡ distinct_groups (take n pairs) ++ late)

abbrev pub GroupsOfPairs : Type 0
GroupsOfPairs = (pairs : List (List ℕ × List ℕ)) → AreGroups pairs (distinct_groups pairs)
