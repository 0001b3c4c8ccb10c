-- Laws of paths, and of sets of pairs.
use Rattle.std.specs.Prelude.{◌≡◌, ℕ, ◌&&◌, Bool, true, IsTrue, List, [], ◌∷◌, Ok}
use Rattle.std.specs.List.{list_any}
use Rattle.room_rows.specs.Content.{is_pair_before, set_of}
use Rattle.room_rows.specs.Paths.{is_path, path_of, path_text}

-- The text of a path is read as that path.
abbrev pub PathReadsBack : Type 0
PathReadsBack =
    (names : List (List ℕ)) → IsTrue (is_path names) → path_of (path_text names) ≡ Ok names

-- each pair comes before the next one
abbrev pub are_rising : List (List ℕ × List ℕ) → Bool
are_rising [] = true
are_rising (pair ∷ []) = true
are_rising (pair ∷ next ∷ pairs) = is_pair_before pair next && are_rising (next ∷ pairs)

-- The set of pairs is in order of group and then of user, and so has each pair once. Whatever is
-- tested, one of the set passes exactly where one of the pairs does: none is lost or added.
abbrev pub SetOfPairs : Type 0
SetOfPairs =
    (pairs : List (List ℕ × List ℕ)) → IsTrue (are_rising (set_of pairs))
    × ((test : List ℕ × List ℕ → Bool) → list_any test (set_of pairs) ≡ list_any test pairs)
