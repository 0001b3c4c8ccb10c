-- The last object on a way.
use Rattle.std.proofs.Common.{◌≡◌, ◌-◌, List, [], ◌∷◌, length, refl, sym, ap, ◌∙◌, Some, arith}
use Rattle.std.specs.List.{slice_get}
use Rattle.room_machine.specs.Rights.{last_of}

last_read : {A : Type 0} (x : A) (xs : List A) → slice_get (x ∷ xs) (length xs) ≡ last_of (x ∷ xs)
last_read x [] = refl
last_read x (next ∷ more) = last_read next more

last_got : {A : Type 0} (xs : List A) → slice_get xs (length xs - 1) ≡ last_of xs
last_got [] = refl
last_got (x ∷ xs) =
    let place : length (x ∷ xs) - 1 ≡ length xs = omega arith in
    ap (slice_get (x ∷ xs)) place ∙ last_read x xs

-- what a slice says is its last item
pub last_is : {A : Type 0} (xs ys : List A) (x : A) → xs ≡ ys
    → Some x ≡ slice_get xs (length xs - 1) → last_of ys ≡ Some x
last_is xs ys x same at = ap last_of (sym same) ∙ sym (last_got xs) ∙ sym at
