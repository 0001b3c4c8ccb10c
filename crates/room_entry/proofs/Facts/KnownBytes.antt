-- Known bytes that are written one text after another.
use Rattle.std.proofs.Common.{◌≡◌, ℕ, ◌+◌, ◌-◌, arith, List, [], ◌++◌, length, take, drop, Option}
use Rattle.std.proofs.{Common.{Some, None, sym, ap, ◌∙◌, append_assoc}, lemmas.List.append-nil}
use Rattle.std.proofs.lemmas.{List.{take_all, length-drop}, Bool.Decides.nat_tests}
use Rattle.std.{proofs.Math.Seq.take-add, specs.Io.KnownBytes.{Appends, Keeps}}

-- one text was written and then another: so the two, joined, were
pub Appends-then : (u v w : Option (List ℕ)) (a b : List ℕ) → Appends u v a → Appends v w b
    → Appends u w (a ++ b)
Appends-then None v w a b x y = tt
Appends-then (Some xs) None w a b x y = absurd x
Appends-then (Some xs) (Some ys) None a b x y = y
Appends-then (Some xs) (Some ys) (Some zs) a b x y =
    y ∙ ap (λ (t : List ℕ). t ++ b) x ∙ append_assoc xs a b

-- a text was written, and then the bytes were left as they were
pub Appends-kept : (u v w : Option (List ℕ)) (a : List ℕ) → Appends u v a → Keeps v w
    → Appends u w a
Appends-kept None v w a x y = tt
Appends-kept (Some xs) None w a x y = absurd x
Appends-kept (Some xs) (Some ys) None a x y = absurd y
Appends-kept (Some xs) (Some ys) (Some zs) a x y = y ∙ x

-- nothing was written
pub Appends-none : (u : Option (List ℕ)) → Appends u u []
Appends-none None = tt
Appends-none (Some xs) = sym (append-nil xs)

-- n bytes of a text were written, and then m bytes of its rest: so its first n + m were
pub Appends-at : (u v w : Option (List ℕ)) (text : List ℕ) (n m : ℕ)
    → Appends u v (take n text) → Appends v w (take m (take (length text - n) (drop n text)))
    → Appends u w (take (n + m) text)
Appends-at u v w text n m x y =
    grind (arith, nat_tests, Appends-then, length-drop, take-add, take_all)

Keeps-none : (v w : Option (List ℕ)) → Appends v w [] → Keeps v w
Keeps-none None w x = tt
Keeps-none (Some xs) None x = x
Keeps-none (Some xs) (Some ys) x = x ∙ append-nil xs

-- where a write took 0 bytes of a text, what was written before stays as it was
pub Keeps-zero : (v w : Option (List ℕ)) (n : ℕ) (text : List ℕ) → n ≡ 0 → Appends v w (take n text)
    → Keeps v w
Keeps-zero v w n text e x = grind (arith, nat_tests, Keeps-none)
