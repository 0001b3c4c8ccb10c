-- Children in order of name are determined by what is found by each name.
use Rattle.std.proofs.Common.{rules, ◌≡◌, ℕ, ◌⊎◌, inl, inr, Bool, true, false, cond, not, ◌&&◌}
use Rattle.std.proofs.Common.{List, [], ◌∷◌, map, filter, Option, Some, None, refl, sym, ap, ◌∙◌}
use Rattle.std.proofs.{Common.arith, lemmas.Bool.{not-true, cases_Bool, and_parts, false≢true}}
use Rattle.std.proofs.lemmas.{Bool.Decides.nat_tests, Cmp.nat_list_cmp_total}
use Rattle.std.proofs.lemmas.{Map.Text.is_eq-slice_cmp, Option.none-some}
use Rattle.std.specs.{Cmp.Lexicographic.slice_cmp, List.{find, AllByRecursion, list_any}}
use Rattle.std.specs.{Option.option_map, Ordering.{nat_cmp, ordering_reverse, is_lt, is_eq}}
use Rattle.std.specs.declared.cmp.Ordering.{Ordering, TheVariants.Less}
use Rattle.room_entry.specs.{Pieces.same_text, declared.object.ObjKind.ObjKind}
use Rattle.room_entry.proofs.{Alike.text_itself, Facts.Members.{each_fails, each_filter}}
use Rattle.room_entry.proofs.{Facts.Members.each_weaker, Texts.{same_text-true, same_text-sym}}
use Rattle.room_rows.specs.Content.{Content, is_before, put_by_name, sorted_by_name, has_parent}
use Rattle.room_rows.specs.Content.{child_of, children_of, are_names_apart, same_parent}
use Rattle.room_rows.{specs.declared.node.Node.Node, proofs.Frames.parent_is}
use Rattle.room_machine.specs.Effect.{names_at}
use Rattle.room_laws.proofs.Local.{shown_of}
use Rattle.room_rows.proofs.Lookups as lookups

-- ---- the order of names

less_of : (a b : List ℕ) → is_before a b ≡ true → slice_cmp nat_cmp a b ≡ Less
less_of a b is = grind (arith, nat_tests)

before_on : (a b c : List ℕ) → is_before a b ≡ true → is_before b c ≡ true → is_before a c ≡ true
before_on a b c first second = grind (arith, nat_tests, less_of, nat_list_cmp_total)

never_itself : (a : List ℕ) → is_before a a ≡ false
never_itself a = grind (arith, nat_tests, nat_list_cmp_total)

-- a name that comes before another isn't it
before_differs : (a b : List ℕ) → is_before a b ≡ true → same_text a b ≡ false
before_differs a b before = search (rules, false≢true, never_itself, same_text-true, before)

-- of two names that differ one comes first
one_first : (a b : List ℕ) → is_before a b ≡ false → same_text a b ≡ false → is_before b a ≡ true
one_first a b isnt differ = grind (arith, nat_tests, is_eq-slice_cmp, nat_list_cmp_total, on)
  where
    on : (o : Ordering) → is_lt o ≡ false → is_eq o ≡ same_text a b
        → is_lt (ordering_reverse o) ≡ true
    on o is same = grind (arith, nat_tests)

-- ---- what is found by a name

abbrev pub by_name : List ℕ → List Node → Option Node
by_name name nodes = find (λ (n : Node). same_text n.name name) nodes

-- each has another name than this one
abbrev Others : Node → List Node → Type 0
Others node nodes = AllByRecursion (λ (n : Node). same_text n.name node.name ≡ false) nodes

-- no two have one name
abbrev Apart : List Node → Type 0
Apart [] = Unit {0}
Apart (x ∷ xs) = Others x xs × Apart xs

-- each comes after this one
abbrev After : Node → List Node → Type 0
After node nodes = AllByRecursion (λ (n : Node). is_before node.name n.name ≡ true) nodes

-- each comes after those before it
abbrev Rising : List Node → Type 0
Rising [] = Unit {0}
Rising (x ∷ xs) = After x xs × Rising xs

after_put : (first node : Node) (nodes : List Node) → is_before first.name node.name ≡ true
    → After first nodes → After first (put_by_name node nodes)
after_put first node [] here all = (here, tt)
after_put first node (x ∷ xs) here all =
    grind (arith, nat_tests, after_put first node xs here all.1)

rising_put : (node : Node) (nodes : List Node) → Others node nodes → Rising nodes
    → Rising (put_by_name node nodes)
rising_put node [] others rising = (tt, tt)
rising_put node (x ∷ xs) others rising =
    on (is_before x.name node.name) refl (rising_put node xs others.1 rising.1)
  where
    on : (t : Bool) → is_before x.name node.name ≡ t → Rising (put_by_name node xs)
        → Rising (cond t (x ∷ put_by_name node xs) (node ∷ x ∷ xs))
    on true is rest = (after_put x node xs is rising.0, rest)
    on false is rest = grind (arith, nat_tests, before_on, each_weaker, one_first)

rising_sorted : (nodes : List Node) → Apart nodes → Rising (sorted_by_name nodes)
rising_sorted [] apart = tt
rising_sorted (x ∷ xs) apart = search (lookups.each-sorted, rising_put, rising_sorted xs apart.1)

-- what is found by a name where an object was put among others of other names
name_put : (name : List ℕ) (node : Node) (nodes : List Node) → Others node nodes
    → by_name name (put_by_name node nodes) ≡ by_name name (node ∷ nodes)
name_put name node [] others = refl
name_put name node (x ∷ xs) others =
    on (is_before x.name node.name) (name_put name node xs others.1)
  where
    swapped : (t u : Bool) → same_text x.name name ≡ t → same_text node.name name ≡ u
        → cond t (Some x) (cond u (Some node) (by_name name xs))
        ≡ cond u (Some node) (cond t (Some x) (by_name name xs))
    swapped true true one two =
        absurd (false≢true (cc (others.0, same_text-true node.name name two, one)))
    swapped _ _ one two = refl

    on : (t : Bool) → by_name name (put_by_name node xs) ≡ by_name name (node ∷ xs)
        → by_name name (cond t (x ∷ put_by_name node xs) (node ∷ x ∷ xs))
        ≡ by_name name (node ∷ x ∷ xs)
    on true rest = grind (arith, nat_tests, swapped)
    on false rest = refl

name_sorted : (name : List ℕ) (nodes : List Node) → Apart nodes
    → by_name name (sorted_by_name nodes) ≡ by_name name nodes
name_sorted name [] apart = refl
name_sorted name (x ∷ xs) apart =
    search (lookups.each-sorted, name_put, name_sorted name xs apart.1)

-- ---- two lists in which the same is shown by each name

none_of : (name : List ℕ) (nodes : List Node)
    → AllByRecursion (λ (n : Node). same_text n.name name ≡ false) nodes
    → by_name name nodes ≡ None
none_of name [] all = refl
none_of name (x ∷ xs) all = search (lookups.find_no, none_of name xs all.1)

-- none of those that come after a name has it, or one before it
after_none : (name : List ℕ) (x : Node) (nodes : List Node) → Rising (x ∷ nodes)
    → (is_before name x.name ≡ true) ⊎ (name ≡ x.name) → by_name name nodes ≡ None
after_none name x nodes rising first =
    grind (arith, nat_tests, before_differs, before_on, each_weaker, none_of, same_text-sym)

here : (x : Node) (xs : List Node) → by_name x.name (x ∷ xs) ≡ Some x
here x xs = lookups.find_yes (λ (n : Node). same_text n.name x.name) x xs (text_itself x.name)

abbrev SameByName : List Node → List Node → Type 0
SameByName l m = (name : List ℕ)
    → option_map shown_of (by_name name l) ≡ option_map shown_of (by_name name m)

-- the first of one list isn't before that of the other
not_before : (x y : Node) (xs ys : List Node) → Rising (y ∷ ys) → SameByName (x ∷ xs) (y ∷ ys)
    → is_before x.name y.name ≡ true → ⊥
not_before x y xs ys rising same before =
    none-some (shown_of x)
    (sym (search (rules, after_none, before_differs, same_text-sym, shown_of))
    ∙ sym (same x.name) ∙ ap (option_map shown_of) (here x xs))

same_back : (l m : List Node) → SameByName l m → SameByName m l
same_back l m same name = sym (same name)

pub shown_same : (l m : List Node) → Rising l → Rising m → SameByName l m
    → map shown_of l ≡ map shown_of m
shown_same [] [] one two same = refl
shown_same [] (y ∷ ys) one two same =
    absurd (none-some (shown_of y) (same y.name ∙ ap (option_map shown_of) (here y ys)))
shown_same (x ∷ xs) [] one two same =
    absurd (none-some (shown_of x) (sym (same x.name) ∙ ap (option_map shown_of) (here x xs)))
shown_same (x ∷ xs) (y ∷ ys) one two same =
    elim (cases_Bool (is_before x.name y.name)) [
      | inl before ↦ absurd (not_before x y xs ys two same before)
      | inr not_first ↦ elim (cases_Bool (same_text x.name y.name)) [
        | inr differ ↦ absurd (not_before y x ys xs one (same_back (x ∷ xs) (y ∷ ys) same)
            (one_first x.name y.name not_first differ))
        | inl equal ↦
            let name : x.name ≡ y.name = same_text-true x.name y.name equal in
            let first : shown_of x ≡ shown_of y = grind (arith, nat_tests, here, shown_of) in
            ap (λ (p : List ℕ × ObjKind). p ∷ map shown_of xs) first
            ∙ ap (λ (l : List (List ℕ × ObjKind)). shown_of y ∷ l)
            (shown_same xs ys one.1 two.1 (λ n. rest n name (cases_Bool (same_text x.name n))))
      ]
    ]
  where
    rest : (n : List ℕ) → x.name ≡ y.name → (same_text x.name n ≡ true)
        ⊎ (same_text x.name n ≡ false)
        → option_map shown_of (by_name n xs) ≡ option_map shown_of (by_name n ys)
    rest n name (inl it) =
        cc (
          after_none n x xs one (inr (sym (same_text-true x.name n it))),
          after_none n y ys two (inr (sym (same_text-true x.name n it) ∙ name)),
        )
    rest n name (inr other) = grind (arith, nat_tests, lookups.find_no, shown_of)

-- ---- children

find_filter : (p q : Node → Bool) (nodes : List Node)
    → find q (filter p nodes) ≡ find (λ (n : Node). p n && q n) nodes
find_filter p q [] = refl
find_filter p q (x ∷ xs) = grind (arith, nat_tests, find_filter p q xs)

apart_children : (id : ℕ) (nodes : List Node) → are_names_apart nodes ≡ true
    → Apart (filter (has_parent id) nodes)
apart_children id [] apart = tt
apart_children id (x ∷ xs) apart =
    on (has_parent id x) refl
    (and_parts _ (are_names_apart xs) apart).0
    (apart_children id xs (and_parts _ (are_names_apart xs) apart).1)
  where
    test : Node → Bool
    test other = same_parent x.parent other.parent && same_text x.name other.name

    siblings : (n : Node) → has_parent id x ≡ true → has_parent id n ≡ true
        → same_parent x.parent n.parent ≡ true
    siblings n first second = grind (arith, nat_tests, parent_is)

    no_same : (n : Node) → has_parent id x ≡ true → test n ≡ false → has_parent id n ≡ true
        → same_text n.name x.name ≡ false
    no_same n below isnt is = grind (arith, nat_tests, same_text-sym, siblings)

    on : (t : Bool) → has_parent id x ≡ t → not (list_any test xs) ≡ true
        → Apart (filter (has_parent id) xs)
        → Apart (cond t (x ∷ filter (has_parent id) xs) (filter (has_parent id) xs))
    on true is none rest = search (each_fails, each_filter, each_weaker, no_same, not-true, test)
    on false is none rest = rest

-- a child is found by its name among the children in order
pub child_by_name : (c : Content) (id : ℕ) → are_names_apart c.nodes ≡ true → (name : List ℕ)
    → by_name name (children_of c id) ≡ child_of c id name
child_by_name c id apart name = grind (arith, nat_tests, apart_children, find_filter, name_sorted)

-- The names and kinds below an object are determined by what is found below it by each name.
pub names_by_name : (a b : Content) (i j : ℕ) → are_names_apart a.nodes ≡ true
    → are_names_apart b.nodes ≡ true
    → ((name : List ℕ) → option_map shown_of (child_of a i name)
    ≡ option_map shown_of (child_of b j name))
    → names_at a i ≡ names_at b j
names_by_name a b i j one two same =
    grind (arith, nat_tests, apart_children, child_by_name, rising_sorted, shown_of, shown_same)
