-- Where numbers differ, each object is found at one path alone.
use Rattle.std.proofs.Common.{rules, ℕ, ◌≡◌, ◌⊎◌, inl, inr, true, false, List, [], ◌∷◌, ◌++◌}
use Rattle.std.proofs.Common.{length, length-append, take, drop, Option, Some, None, refl, sym, ap}
use Rattle.std.proofs.Common.{subst, ◌∙◌, arith, append_assoc, take-append-drop}
use Rattle.std.proofs.lemmas.{Bool.{cases_Bool, Decides.nat_tests}, List.reverse-reverse}
use Rattle.std.{proofs.lemmas.Option.same_Some, specs.Prelude.{option_and_then, reverse}}
use Rattle.room_entry.{specs.Pieces.same_text, proofs.{Alike.text_itself, Texts.same_text-true}}
use Rattle.room_rows.specs.{Content.{Content, child_of, root_of, node_at}, declared.node.Node.Node}
use Rattle.room_rows.proofs.Frames.{Rises, child_of-is_there, child_of-name, child_of-parent}
use Rattle.room_rows.proofs.Frames.{root_of-is_there, root_of-parent}
use Rattle.room_machine.specs.Site.{front, last_name}
use Rattle.room_laws.specs.Outside.{found, found_from, IsBehind}
use mathlib.Core.List.{reverse_aux}

-- ---- lists of names

pub head_same : {X : Type 0} (x y : X) (xs ys : List X) → x ∷ xs ≡ y ∷ ys → x ≡ y
head_same x y xs ys is = cc

pub tail_same : {X : Type 0} (x y : X) (xs ys : List X) → x ∷ xs ≡ y ∷ ys → xs ≡ ys
tail_same x y xs ys is = cc

pub not_empty : {X : Type 0} (x : X) (xs : List X) → [] ≡ x ∷ xs → ⊥
not_empty x xs is = cc

pub split_last : (name : List ℕ) (names : List (List ℕ))
    → name ∷ names ≡ front (name ∷ names) ++ last_name (name ∷ names) ∷ []
split_last name [] = refl
split_last name (next ∷ names) = ap (λ (l : List (List ℕ)). name ∷ l) (split_last next names)

-- ---- what is behind

-- a path is behind another or it isn't
pub behind_or_not : (front path : List (List ℕ)) → IsBehind front path
    ⊎ (IsBehind front path → ⊥)
behind_or_not [] [] = inr (λ is. not_empty is.0 is.1 is.2)
behind_or_not [] (name ∷ names) = inl (name, names, refl)
behind_or_not (x ∷ front) [] = inr (λ is. not_empty x (front ++ is.0 ∷ is.1) is.2)
behind_or_not (x ∷ front) (y ∷ path) =
    on (cases_Bool (same_text y x)) (behind_or_not front path)
  where
    on : (same_text y x ≡ true) ⊎ (same_text y x ≡ false)
        → IsBehind front path ⊎ (IsBehind front path → ⊥)
        → IsBehind (x ∷ front) (y ∷ path) ⊎ (IsBehind (x ∷ front) (y ∷ path) → ⊥)
    on (inl same) (inl is) =
        inl (search (rules, same_text-true))
    on (inl same) (inr isnt) = grind (arith, nat_tests, tail_same)
    on (inr differ) other = grind (arith, nat_tests, head_same, text_itself)

-- what goes on from a path behind is behind
pub behind_on : (front path more : List (List ℕ)) → IsBehind front path
    → IsBehind front (path ++ more)
behind_on front path more is =
    grind (
      arith,
      nat_tests,
      is.0,
      is.1 ++ more,
      ap (λ (l : List (List ℕ)). l ++ more) is.2,
      append_assoc front (is.0 ∷ is.1) more,
    )

-- so no part of a path that isn't behind is
pub part_outside : (front path : List (List ℕ)) → (IsBehind front path → ⊥) → (i : ℕ)
    → IsBehind front (take i path) → ⊥
part_outside front path outside i is =
    outside (subst (IsBehind front) (take-append-drop i path)
    (behind_on front (take i path) (drop i path) is))

-- nor is what it goes on from
pub start_outside : (front path more : List (List ℕ)) → (IsBehind front (path ++ more) → ⊥)
    → IsBehind front path → ⊥
start_outside front path more outside is = outside (behind_on front path more is)

-- the front itself isn't behind
pub not_itself : (front : List (List ℕ)) → IsBehind front front → ⊥
not_itself front is =
    let same = ap length is.2 ∙ length-append front (is.0 ∷ is.1) in
    search (rules, is.0, is.1, same)

-- ---- one name further

then_some : (o : Option Node) → option_and_then (λ (n : Node). Some n) o ≡ o
then_some o = grind (arith, nat_tests)

snoc_from : (content : Content) (node : Node) (names : List (List ℕ)) (name : List ℕ)
    → found_from content node (names ++ name ∷ [])
    ≡ option_and_then (λ n. child_of content n.id name) (found_from content node names)
snoc_from content node [] name = then_some (child_of content node.id name)
snoc_from content node (first ∷ names) name =
    on (child_of content node.id first) (λ child. snoc_from content child names name)
  where
    on : (o : Option Node)
        → ((child : Node) → found_from content child (names ++ name ∷ [])
        ≡ option_and_then (λ n. child_of content n.id name) (found_from content child names))
        → option_and_then (λ child. found_from content child (names ++ name ∷ [])) o
        ≡ option_and_then (λ n. child_of content n.id name)
        (option_and_then (λ child. found_from content child names) o)
    on o more = grind (arith, nat_tests)

pub found_snoc : (content : Content) (names : List (List ℕ)) (name : List ℕ)
    → found content (names ++ name ∷ [])
    ≡ option_and_then (λ n. child_of content n.id name) (found content names)
found_snoc content names name = grind (arith, nat_tests, snoc_from)

-- ---- from the end on

module _ (content : Content) where
  -- what the names lead to, the last of which comes first
  abbrev pub found_up : List (List ℕ) → Option Node
  found_up [] = root_of content
  found_up (name ∷ above) = option_and_then (λ n. child_of content n.id name) (found_up above)

  none_up : (names above : List (List ℕ)) → found_up above ≡ None
      → found_up (reverse_aux names above) ≡ None
  none_up [] above none = none
  none_up (name ∷ names) above none = search (rules, none, none_up names (name ∷ above))

  some_up : (names above : List (List ℕ)) (node : Node) → found_up above ≡ Some node
      → found_from content node names ≡ found_up (reverse_aux names above)
  some_up [] above node is = sym is
  some_up (name ∷ names) above node is =
      on (child_of content node.id name) refl
      (λ child there. some_up names (name ∷ above) child
      (ap (option_and_then (λ n. child_of content n.id name)) is ∙ there))
    where
      on : (o : Option Node) → child_of content node.id name ≡ o
          → ((child : Node) → child_of content node.id name ≡ Some child
          → found_from content child names ≡ found_up (reverse_aux names (name ∷ above)))
          → option_and_then (λ child. found_from content child names) o
          ≡ found_up (reverse_aux names (name ∷ above))
      on o none more = grind (arith, nat_tests, none_up)

  pub up_found : (path : List (List ℕ)) → found content path ≡ found_up (reverse path)
  up_found path = grind (arith, nat_tests, none_up, some_up)

  module _ (rises : Rises content) where
    -- what is found has its number
    up_there : (path : List (List ℕ)) (node : Node) → found_up path ≡ Some node
        → node_at content node.id ≡ Some node
    up_there [] node is = root_of-is_there content rises node is
    up_there (name ∷ above) node is = grind (arith, nat_tests, child_of-is_there)

    pub found_there : (path : List (List ℕ)) (node : Node) → found content path ≡ Some node
        → node_at content node.id ≡ Some node
    found_there path node is = up_there (reverse path) node (sym (up_found path) ∙ is)

    -- objects of one number are one object
    pub one_object : (n m : Node) → node_at content n.id ≡ Some n → node_at content m.id ≡ Some m
        → n.id ≡ m.id → n ≡ m
    one_object n m first second same = search (same_Some)

    one_way : (p q : List (List ℕ)) (n m : Node) → found_up p ≡ Some n → found_up q ≡ Some m
        → n ≡ m → p ≡ q
    one_way [] [] n m first second same = refl
    one_way [] (y ∷ q) n m first second same =
        grind (arith, nat_tests, child_of-parent, root_of-parent)
    one_way (x ∷ p) [] n m first second same =
        grind (arith, nat_tests, child_of-parent, root_of-parent)
    one_way (x ∷ p) (y ∷ q) n m first second same =
        on (found_up p) (found_up q) refl refl first second (one_way p q)
      where
        on : (o r : Option Node) → found_up p ≡ o → found_up q ≡ r
            → option_and_then (λ z. child_of content z.id x) o ≡ Some n
            → option_and_then (λ z. child_of content z.id y) r ≡ Some m
            → ((z w : Node) → found_up p ≡ Some z → found_up q ≡ Some w → z ≡ w → p ≡ q)
            → x ∷ p ≡ y ∷ q
        on o r is_o is_r first second more =
            grind (arith, nat_tests, child_of-name, child_of-parent, one_object, up_there)

    -- An object is found at one path alone.
    pub one_place : (p q : List (List ℕ)) (n m : Node) → found content p ≡ Some n
        → found content q ≡ Some m → n.id ≡ m.id → p ≡ q
    one_place p q n m first second same =
        cc (
          reverse-reverse p,
          one_way (reverse p) (reverse q) n m (sym (up_found p) ∙ first) (sym (up_found q) ∙ second)
              (one_object n m (found_there p n first) (found_there q m second) same),
          reverse-reverse q,
        )
