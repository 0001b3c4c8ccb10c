-- Lists that are the same with one more at their end.
use Rattle.std.proofs.Common.{◌≡◌, List, [], ◌∷◌, ◌++◌, refl, sym, ap, ◌∙◌}
use Rattle.room_rows.specs.declared.node.Node.{Node}

abbrev last_of : Node → List Node → Node
last_of before [] = before
last_of before (x ∷ xs) = last_of x xs

last_is : (before : Node) (xs : List Node) (x : Node) → last_of before (xs ++ x ∷ []) ≡ x
last_is before [] x = refl
last_is before (y ∷ ys) x = last_is y ys x

pub same_last : (xs ys : List Node) (x y : Node) → xs ++ x ∷ [] ≡ ys ++ y ∷ [] → x ≡ y
same_last xs ys x y same = sym (last_is x xs x) ∙ ap (last_of x) same ∙ last_is x ys y

but_last : List Node → List Node
but_last [] = []
but_last (x ∷ []) = []
but_last (x ∷ y ∷ ys) = x ∷ but_last (y ∷ ys)

but_last_is : (xs : List Node) (x : Node) → but_last (xs ++ x ∷ []) ≡ xs
unfolding but_last
but_last_is [] x = refl
but_last_is (y ∷ []) x = refl
but_last_is (y ∷ z ∷ zs) x = ap (λ (l : List Node). y ∷ l) (but_last_is (z ∷ zs) x)

pub same_front : (xs ys : List Node) (x y : Node) → xs ++ x ∷ [] ≡ ys ++ y ∷ [] → xs ≡ ys
same_front xs ys x y same = sym (but_last_is xs x) ∙ ap but_last same ∙ but_last_is ys y
