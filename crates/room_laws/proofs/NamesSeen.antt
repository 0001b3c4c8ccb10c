-- Where the same is seen outside, the same names are listed there.
use Rattle.std.proofs.Common.{ℕ, ◌≡◌, true, List, [], ◌∷◌, ◌++◌, Option, Some, None, refl, ap, ◌∙◌}
use Rattle.std.{proofs.{Common.arith, lemmas.Bool.Decides.nat_tests}, specs.Option.option_map}
use Rattle.room_entry.specs.declared.object.ObjKind.{ObjKind}
use Rattle.room_rows.specs.{Content.{Content, child_of, are_names_apart}, declared.node.Node.Node}
use Rattle.room_machine.specs.Effect.{names_at}
use Rattle.room_laws.specs.Outside.{sight, Seen, found, view, listing, IsBehind}
use Rattle.room_laws.proofs.{ByName.names_by_name, Local.shown_of, OnePlace.found_snoc}

-- a child of what isn't behind isn't behind, but for the children of the front
pub child_outside : (f path : List (List ℕ)) (name : List ℕ) → (IsBehind f path → ⊥)
    → (path ≡ f → ⊥) → IsBehind f (path ++ name ∷ []) → ⊥
child_outside [] [] name outside other is = other refl
child_outside [] (x ∷ path) name outside other is = outside (x, path, refl)
child_outside (y ∷ f) [] name outside other (n, ns, is) = short f is
  where
    short : (g : List (List ℕ)) → name ∷ [] ≡ y ∷ g ++ n ∷ ns → ⊥
    short [] same = let wrong : ⊥ = cc in wrong
    short (z ∷ g) same = let wrong : ⊥ = cc in wrong
child_outside (y ∷ f) (x ∷ path) name outside other (n, ns, is) =
    child_outside f path name
    (grind (arith, nat_tests, first))
    (λ e. other (ap (λ (l : List (List ℕ)). x ∷ l) e ∙ ap (λ (k : List ℕ). k ∷ f) first))
    (n, ns, rest is)
  where
    first : x ≡ y
    first = grind (arith, nat_tests)

    rest : x ∷ path ++ name ∷ [] ≡ y ∷ f ++ n ∷ ns → path ++ name ∷ [] ≡ f ++ n ∷ ns
    rest same = cc

-- Where the same is seen outside, the same names are listed there.
pub names_from_views : (f : List (List ℕ)) (c d : Content) → are_names_apart c.nodes ≡ true
    → are_names_apart d.nodes ≡ true
    → ((q : List (List ℕ)) → (IsBehind f q → ⊥) → view c q ≡ view d q)
    → (path : List (List ℕ)) → (IsBehind f path → ⊥) → (path ≡ f → ⊥)
    → listing c path ≡ listing d path
names_from_views f c d one two views path outside other =
    on (found c path) (found d path) refl refl (views path outside)
  where
    shown : Seen → List ℕ × ObjKind
    shown v = shown_of v.0

    below : (content : Content) (n : Node) → found content path ≡ Some n → (name : List ℕ)
        → option_map shown (view content (path ++ name ∷ []))
        ≡ option_map shown_of (child_of content n.id name)
    below content n is name = grind (arith, nat_tests, found_snoc, shown_of)

    on : (o p : Option Node) → found c path ≡ o → found d path ≡ p
        → option_map (sight c) (found c path) ≡ option_map (sight d) (found d path)
        → option_map (λ (n : Node). names_at c n.id) o
        ≡ option_map (λ (n : Node). names_at d n.id) p
    on None None is at same = refl
    on None (Some m) is at same = grind (arith, nat_tests)
    on (Some n) None is at same = grind (arith, nat_tests)
    on (Some n) (Some m) is at same =
        ap (λ (l : List (List ℕ × ObjKind)). Some l)
        (names_by_name c d n.id m.id one two (λ name.
        cc (
          below c n is name,
          views (path ++ name ∷ []) (child_outside f path name outside other),
          below d m at name,
        )))
