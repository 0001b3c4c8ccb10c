-- How many members of a list pass a test, counted from member to member.
use Rattle.std.specs.Prelude.{ℕ, ◌+◌, Bool, cond, List, [], ◌∷◌}

-- 1 for a test that is passed, and 0 else
abbrev pub one_if : Bool → ℕ
one_if t = cond t 1 0

-- how many members pass the test
abbrev pub count : {A : Type 0} → (A → Bool) → List A → ℕ
count p [] = 0
count p (x ∷ xs) = one_if (p x) + count p xs
