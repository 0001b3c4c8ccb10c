-- Known bytes that are read or written one text after another.
use Rattle.std.proofs.Common.{Bool, true, false, Result, Ok, Err, OnErr, IfErr, ◌≡◌, ℕ, ◌+◌}
use Rattle.std.proofs.Common.{◌-◌, ◌<◌, arith, List, [], ◌++◌, length, take, drop, subst, Option}
use Rattle.std.proofs.Common.{Some, None, sym, ap, refl, ◌∙◌, append_assoc}
use Rattle.std.proofs.lemmas.List.{take-append-drop, length-append, length-drop}
use Rattle.std.specs.Io.KnownBytes.{Appends, Consumes, Keeps}
use Rattle.room_http.specs.{declared.ended.Cause.Cause, Spans.{Came, StopsReading}}
use Rattle.room_http.specs.Exchange.{WritesPart}
use Rattle.room_entry.proofs.Facts.KnownBytes.{Appends-then, Appends-kept}

pub Consumes-then : (u v w : Option (List ℕ)) (a b : List ℕ) → Consumes u v a → Consumes v w b
    → Consumes u w (a ++ b)
Consumes-then None v w a b x y = tt
Consumes-then (Some xs) None w a b x y = absurd x
Consumes-then (Some xs) (Some ys) None a b x y = y
Consumes-then (Some xs) (Some ys) (Some zs) a b x y =
    x ∙ ap (λ (t : List ℕ). a ++ t) y ∙ sym (append_assoc a b zs)

pub Consumes-none : (u : Option (List ℕ)) → Consumes u u []
Consumes-none None = tt
Consumes-none (Some xs) = refl

pub Came-then : (u v w : Option (List ℕ)) (a b d : List ℕ) → Came u v a b → Came v w b d
    → Came u w a d
Came-then u v w a b d x y = (grind (arith, x.0, y.0, x.1, y.1, y.2, x.2, append_assoc))

-- more bytes came, and then a read brought nothing
pub lost-behind : {A : Type 0} (u v w : Option (List ℕ)) (a b : List ℕ) (result : Result A Cause)
    → Came u v a b → IfErr result (StopsReading v w b) → IfErr result (StopsReading u w a)
lost-behind u v w a b (Ok value) x y = tt
lost-behind u v w a b (Err why) x y = (y.0, Came-then u v w a b y.0 x y.1, y.2)

-- a front was written, and nothing more
pub WritesPart-at : (u v w : Option (List ℕ)) (text : List ℕ) (n : ℕ)
    → n < length text → Appends u v (take n text) → Keeps v w → WritesPart u w text
WritesPart-at u v w text n lt x y =
    let len : length (drop n text) ≡ length text - n = length-drop n text in (
      (
        take n text,
        drop n text,
        sym (take-append-drop n text),
        Appends-kept u v w (take n text) x y,
      ),
      omega (arith, len, lt),
    )

-- what holds anyway holds of an error
pub err-anyway : {A E P : Type 0} (result : Result A E) → P → OnErr result P
err-anyway (Ok done) holds = tt
err-anyway (Err why) holds = holds

pub first-part : (u v : Option (List ℕ)) (front rest text : List ℕ) → front ++ rest ≡ text
    → WritesPart u v front → WritesPart u v text
first-part u v front rest text e w =
    let len : length (w.0.1 ++ rest) ≡ length w.0.1 + length rest = length-append w.0.1 rest in
    subst (λ t. WritesPart u v t) e (
      grind (arith, w.0.0, w.0.1, w.0.2, append_assoc, w.0.3),
      omega (arith, len, w.1),
    )

pub second-part : {A E : Type 0} (result : Result A E) (u v w : Option (List ℕ))
    (front rest text : List ℕ) → front ++ rest ≡ text
    → Appends u v front → OnErr result (WritesPart v w rest) → OnErr result (WritesPart u w text)
second-part (Ok done) u v w front rest text e x y = tt
second-part (Err why) u v w front rest text e x y =
    subst (λ t. WritesPart u w t) e (
      (
        front ++ y.0.0,
        y.0.1,
        grind (arith, y.0.2, append_assoc, y.0.0, y.0.1),
        Appends-then u v w front y.0.0 x y.0.3,
      ),
      y.1,
    )

-- an answer is one of two
abbrev IsNoYes : {E : Type 0} → Result Bool E → Type 0
IsNoYes (Ok true) = ⊥
IsNoYes (Ok false) = Unit {0}
IsNoYes (Err e) = Unit {0}

pub no-is-not-yes : {E : Type 0} (r : Result Bool E) → IsNoYes r → r ≡ Ok true → ⊥
no-is-not-yes r fits e = subst (λ s. IsNoYes s) e fits
