use Rattle.std.proofs.Common.{◌≡◌, ◌∷◌, ◌++◌, List, ℕ, reverse, vec_len, string_bytes}
use Rattle.std.specs.List.{flat_map}
use Rattle.room_verify.proofs.true_path.push_down.Given as goal

-- the text so far, and then the names that are left
abbrev pub invariant-names : goal.invariant-names
invariant-names l =
    string_bytes l.text ++ flat_map (λ (name : List ℕ). 47 ∷ name) (reverse l.left.items)
    ≡ string_bytes l.fn.text ++ flat_map (λ (name : List ℕ). 47 ∷ name) (reverse l.fn.names.items)

abbrev pub decreases-names : goal.decreases-names
decreases-names l = vec_len l.left
