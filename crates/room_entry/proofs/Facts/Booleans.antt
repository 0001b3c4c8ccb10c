-- Tests that agree, and what one test says of another.
use Rattle.std.proofs.Common.{◌≡◌, Bool, true, false, cond, not, ◌||◌, refl, sym}
use Rattle.std.proofs.lemmas.Bool.{false≢true}

-- tests of which each implies the other are equal
pub same_truth : (a b : Bool) → (a ≡ true → b ≡ true) → (b ≡ true → a ≡ true) → a ≡ b
same_truth true b there back = sym (there refl)
same_truth false true there back = back refl
same_truth false false there back = refl

-- where the first test has to imply the second and is passed, the second is too
pub implied : (t u : Bool) → (not t || u) ≡ true → t ≡ true → u ≡ true
implied true u either is = either
implied false u either is = absurd (false≢true is)

-- a test that one more member may pass, beside those before it
pub one_more : (is before : Bool) → cond is true before ≡ (before || (is || false))
one_more true true = refl
one_more true false = refl
one_more false true = refl
one_more false false = refl
