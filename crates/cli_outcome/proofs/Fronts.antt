-- Bytes that came from a reader, one piece after another.
use Rattle.std.proofs.Common.{◌≡◌, ◌≤◌, ℕ, ◌+◌, arith, List, ◌++◌, length, take, Option, Some}
use Rattle.std.proofs.Common.{None, IfSome, sym, ap, subst, ◌∙◌, append_assoc}
use Rattle.std.proofs.lemmas.List.{append-nil, length-append, take_all}
use Rattle.std.specs.Io.KnownBytes.{Consumes, IsAtEnd}
use Rattle.cli_outcome.specs.Reading.{Brings, TakesAtMost}

-- at most so many came, which are these
abbrev pub Came : ℕ → Option (List ℕ) → Option (List ℕ) → List ℕ → Type 0
Came most old new read = Consumes old new read × (length read ≤ most)

came_more : (u v w : Option (List ℕ)) (a b : List ℕ) (n m : ℕ) → Came n u v a → Came m v w b
    → Came (n + m) u w (a ++ b)
came_more u v w a b n m one two =
    let long : length (a ++ b) ≡ length a + length b = length-append a b in
    (joined u v w one.0 two.0, omega (arith, long, one.1, two.1))
  where
    joined : (u v w : Option (List ℕ)) → Consumes u v a → Consumes v w b → Consumes u w (a ++ b)
    joined None v w x y = tt
    joined (Some xs) None w x y = absurd x
    joined (Some xs) (Some ys) None x y = y
    joined (Some xs) (Some ys) (Some zs) x y =
        x ∙ ap (λ (t : List ℕ). a ++ t) y ∙ sym (append_assoc a b zs)

-- one more piece came
pub came_on : (u v w : Option (List ℕ)) (a b : List ℕ) (room most : ℕ) → Came most u v a
    → length a + room ≤ most → Brings room v w a b → Came most u w b
came_on u v w a b room most one fits (read, came, few, is) =
    let all = came_more u v w a read (length a) room (one.0, omega arith) (came, few) in
    subst (λ (t : List ℕ). Came most u w t) (sym is) (all.0, omega (arith, all.1, fits))

-- what came is all that there is
pub came_whole : (u v : Option (List ℕ)) (a : List ℕ) (most : ℕ) → Came most u v a → IsAtEnd v
    → IfSome u (λ input. a ≡ take most input)
came_whole None v a most came end = tt
came_whole (Some xs) None a most came end = absurd came.0
came_whole (Some xs) (Some ys) a most came end =
    let all : xs ≡ a = came.0 ∙ ap (λ (t : List ℕ). a ++ t) end ∙ append-nil a in
    sym (ap (take most) all ∙ take_all most a came.1)

-- a piece was lost after what had come
pub came_lost : (u v w : Option (List ℕ)) (a : List ℕ) (room most : ℕ) → Came most u v a
    → length a + room ≤ most → TakesAtMost room v w → TakesAtMost most u w
came_lost u v w a room most one fits (read, came, few) =
    let all = came_more u v w a read (length a) room (one.0, omega arith) (came, few) in
    (a ++ read, all.0, omega (arith, all.1, fits))
