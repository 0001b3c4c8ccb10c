use Rattle.std.proofs.Common.{◌≡◌, ◌++◌, ℕ, List, map, filter, drop}
use Rattle.room_entry.specs.Pieces.{same_text}
use Rattle.room_memory.proofs.lists.PairSet.groups_of.Given as goal

-- the groups so far, and those of the pairs that are left
abbrev pub invariant-loop-pair : goal.invariant-loop-pair
invariant-loop-pair l =
    l.groups ++ map (λ (pair : List ℕ × List ℕ). pair.0)
    (filter (λ (pair : List ℕ × List ℕ). same_text pair.1 l.user) (drop l.pair-index l.pair-items))
    ≡ map (λ (pair : List ℕ × List ℕ). pair.0)
    (filter (λ (pair : List ℕ × List ℕ). same_text pair.1 l.user) l.fn.self)
