-- The lines that a dump has of the pairs (own).
use Rattle.std.specs.Prelude.{ℕ, List, ◌++◌, codes}
use Rattle.std.specs.List.{flat_map}

-- a pair of group and user
abbrev pub member_line : List ℕ × List ℕ → List ℕ
member_line pair = codes "member " ++ (pair.0 ++ (codes " " ++ (pair.1 ++ codes "\n")))

abbrev pub members_text : List (List ℕ × List ℕ) → List ℕ
members_text pairs = flat_map member_line pairs
