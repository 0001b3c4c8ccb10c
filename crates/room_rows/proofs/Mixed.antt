-- Lists with others in between, as the names under a parent are told.
use Rattle.std.proofs.Common.{◌≡◌, ℕ, List, [], ◌∷◌, map, refl, sym, ap₂, subst, inl, inr, arith}
use Rattle.std.{proofs.lemmas.Bool.Decides.nat_tests, specs.List.Contains}
use Rattle.room_entry.specs.declared.object.ObjKind.{ObjKind}
use Rattle.room_rows.specs.{declared.node.Node.Node, Content.children_of, Keep.AreNamedUnder}
use Rattle.room_rows.specs.{Keep.IsMixed, Rows.Rows}

nothing_stands : {X : Type 0} (x : X) → Contains [] x → ⊥
nothing_stands x stands = absurd (let below = stands.1 in omega (arith, below))

-- a list has nothing in between
pub mixed_itself : {X : Type 0} (others xs : List X) → IsMixed others xs xs
mixed_itself others [] = refl
mixed_itself others (x ∷ xs) = inl (refl, mixed_itself others xs)

pub mixed_same : {X : Type 0} (others xs ys : List X) → ys ≡ xs → IsMixed others xs ys
mixed_same others xs ys same = subst (IsMixed others xs) (sym same) (mixed_itself others xs)

-- one of the others may come first
pub mixed_other : {X : Type 0} (others xs : List X) (y : X) (ys : List X) → Contains others y
    → IsMixed others xs ys → IsMixed others xs (y ∷ ys)
mixed_other others [] y ys stands rest = (stands, rest)
mixed_other others (x ∷ xs) y ys stands rest = inr (stands, rest)

-- where there are no others, nothing is in between
pub mixed_alone : {X : Type 0} (xs ys : List X) → IsMixed [] xs ys → ys ≡ xs
mixed_alone xs [] none = sym none
mixed_alone [] (y ∷ ys) mixed = absurd (nothing_stands y mixed.0)
mixed_alone (x ∷ xs) (y ∷ ys) (inl (same, rest)) = ap₂ (λ a l. a ∷ l) same (mixed_alone xs ys rest)
mixed_alone (x ∷ xs) (y ∷ ys) (inr (stands, rest)) = absurd (nothing_stands y stands)

-- where each row can be read, the names are those of the children
pub named_alone : (parent : ℕ) (rows : Rows) (names : List (List ℕ × ObjKind))
    → rows.unreadable ≡ [] → AreNamedUnder parent rows names
    → names ≡ map (λ (node : Node). (node.name, node.kind)) (children_of rows.read parent)
named_alone parent rows names none named = grind (arith, nat_tests, mixed_alone)
