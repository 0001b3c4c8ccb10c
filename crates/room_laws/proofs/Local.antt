-- Changes of what is behind a folder alone.
use Rattle.std.proofs.Common.{rules, ℕ, ◌≡◌, false, ◌&&◌, List, [], ◌∷◌, ◌++◌, map, Option, Some}
use Rattle.std.proofs.Common.{None, refl, sym, ap, subst, ◌∙◌, append-nil, append_assoc, arith}
use Rattle.std.proofs.lemmas.Bool.{and_left, Decides.nat_tests}
use Rattle.std.specs.{Option.option_map, Prelude.{option_and_then, is_none}}
use Rattle.room_entry.specs.{Pieces.same_text, declared.object.ObjKind.ObjKind}
use Rattle.room_rows.specs.Content.{Content, child_of, root_of, node_at, body_of, has_parent}
use Rattle.room_rows.specs.Content.{with_node, with_body, without_node, with_each, with_records}
use Rattle.room_rows.specs.declared.node.{AuditRow.AuditRow, Node.Node}
use Rattle.room_rows.proofs.Frames.{child_of-parent, root_of-parent}
use Rattle.room_rows.proofs.InPlace.{body_of-with_body-other, KeepsPlaces, child_of-with_each}
use Rattle.room_rows.proofs.InPlace.{root_of-with_each, children_of-with_each}
use Rattle.room_machine.specs.{Effect.names_at, Site.{front, last_name}}
use Rattle.room_laws.specs.Outside.{found, found_from, view, listing, IsBehind, SameOutside}
use Rattle.room_laws.specs.Tidy.{IsNumbered}
use Rattle.room_laws.proofs.OnePlace.{found_snoc, found_there, one_place, split_last}
use Rattle.room_laws.proofs.Kept as kept

-- what a listing shows of an object
abbrev pub shown_of : Node → List ℕ × ObjKind
shown_of node = (node.name, node.kind)

module _ (f : List (List ℕ)) (a : Content) where
  -- the number of an object at the front or behind it
  abbrev pub IsInside : ℕ → Type 0
  IsInside id = (rest : List (List ℕ)) × (node : Node)
      × (found a (f ++ rest) ≡ Some node) × (node.id ≡ id)

  -- the number of an object behind the front
  abbrev pub IsUnder : ℕ → Type 0
  IsUnder id = (name : List ℕ) × (rest : List (List ℕ)) × (node : Node)
      × (found a (f ++ name ∷ rest) ≡ Some node) × (node.id ≡ id)

  pub under_inside : (id : ℕ) → IsUnder id → IsInside id
  under_inside id (name, rest, node, is, same) = (name ∷ rest, node, is, same)

  -- What is looked up from any other object is as it was.
  pub record IsLocal (c : Content) : Type 0 where
    pub members : c.members ≡ a.members
    pub root : root_of c ≡ root_of a
    pub child : (id : ℕ) → (IsInside id → ⊥) → (name : List ℕ)
        → child_of c id name ≡ child_of a id name
    pub names : (id : ℕ) → (IsInside id → ⊥) → names_at c id ≡ names_at a id
    pub body : (node : Node) → node_at a node.id ≡ Some node → (IsUnder node.id → ⊥)
        → body_of c node.id ≡ body_of a node.id

  module _ (numbered : IsNumbered a) (c : Content) (local : IsLocal c) where
    -- an object with more names below it is elsewhere, where the whole path isn't behind
    elsewhere : (pre : List (List ℕ)) (node : Node) (name : List ℕ) (names : List (List ℕ))
        → found a pre ≡ Some node → (IsBehind f (pre ++ name ∷ names) → ⊥) → IsInside node.id → ⊥
    elsewhere pre node name names is outside (rest, other, there, same) =
        outside (on rest (one_place a numbered (f ++ rest) pre other node there is same))
      where
        on : (rest : List (List ℕ)) → f ++ rest ≡ pre → IsBehind f (pre ++ name ∷ names)
        on [] at = (search (rules, names, append-nil))
        on (r ∷ rs) at =
            grind (
              arith,
              nat_tests,
              r,
              rs ++ name ∷ names,
              ap (λ (l : List (List ℕ)). l ++ name ∷ names) (sym at),
              append_assoc f (r ∷ rs) (name ∷ names),
            )

    from : (names pre : List (List ℕ)) (node : Node) → found a pre ≡ Some node
        → (IsBehind f (pre ++ names) → ⊥) → found_from c node names ≡ found_from a node names
    from [] pre node is outside = refl
    from (name ∷ names) pre node is outside =
        ap (option_and_then (λ child. found_from c child names))
        (local.child node.id (elsewhere pre node name names is outside) name)
        ∙ on (child_of a node.id name) refl
        (λ child at. from names (pre ++ name ∷ []) child
        (found_snoc a pre name ∙ ap (option_and_then (λ n. child_of a n.id name)) is ∙ at)
        (λ is. outside (subst (IsBehind f) (append_assoc pre (name ∷ []) names) is)))
      where
        on : (o : Option Node) → child_of a node.id name ≡ o
            → ((child : Node) → child_of a node.id name ≡ Some child
            → found_from c child names ≡ found_from a child names)
            → option_and_then (λ child. found_from c child names) o
            ≡ option_and_then (λ child. found_from a child names) o
        on o is more = grind (arith, nat_tests)

    pub found_same : (path : List (List ℕ)) → (IsBehind f path → ⊥) → found c path ≡ found a path
    found_same path outside =
        ap (option_and_then (λ root. found_from c root path)) local.root ∙ on (root_of a) refl
      where
        on : (o : Option Node) → root_of a ≡ o
            → option_and_then (λ root. found_from c root path) o
            ≡ option_and_then (λ root. found_from a root path) o
        on None is = refl
        on (Some root) is =
            from path [] root (ap (option_and_then (λ r. found_from a r [])) is) outside

    views_same : (path : List (List ℕ)) → (IsBehind f path → ⊥) → view a path ≡ view c path
    views_same path outside = grind (arith, nat_tests, found_same, found_there, one_place)

    names_same : (path : List (List ℕ)) → (IsBehind f path → ⊥) → (path ≡ f → ⊥)
        → listing a path ≡ listing c path
    names_same path outside other = search (found_same, on)
      where
        apart : (rest : List (List ℕ)) → f ++ rest ≡ path → ⊥
        apart [] at = other (sym at ∙ append-nil f)
        apart (r ∷ rs) at = outside (r, rs, sym at)

        on : (o : Option Node) → found a path ≡ o
            → option_map (λ (n : Node). names_at c n.id) o
            ≡ option_map (λ (n : Node). names_at a n.id) o
        on None is = refl
        on (Some n) is =
            ap (λ (l : List (List ℕ × ObjKind)). Some l)
            (local.names n.id (grind (arith, nat_tests, apart, one_place)))

    -- a change of what is behind alone leaves all outside
    pub local_outside : SameOutside f a c
    local_outside = grind (arith, nat_tests, names_same, views_same)

  -- ---- changes that are local

  pub itself_local : IsLocal a
  itself_local = grind (arith, nat_tests)

  pub records_local : (c : Content) (rows : List AuditRow) → IsLocal c
      → IsLocal (with_records c rows)
  records_local c rows local = grind (arith, nat_tests)

  pub body_local : (c : Content) (id : ℕ) (bytes : List ℕ) → IsLocal c
      → ((node : Node) → node_at a node.id ≡ Some node → (IsUnder node.id → ⊥) → node.id ≡ id → ⊥)
      → IsLocal (with_body c id bytes)
  body_local c id bytes local apart = grind (arith, nat_tests, body_of-with_body-other)

  -- below an object inside
  abbrev pub IsBelowInside : Node → Type 0
  IsBelowInside node = (id : ℕ) × (node.parent ≡ Some id) × IsInside id

  no_root : (node : Node) → IsBelowInside node → is_none node.parent ≡ false
  no_root node (id, is, inside) = ap is_none is

  no_parent : (node : Node) → IsBelowInside node → (id : ℕ) → (IsInside id → ⊥)
      → has_parent id node ≡ false
  no_parent node (above, is, inside) id other = grind (arith, nat_tests)

  no_child : (node : Node) → IsBelowInside node → (id : ℕ) → (IsInside id → ⊥) → (name : List ℕ)
      → (has_parent id node && same_text node.name name) ≡ false
  no_child node below id other name = search (and_left, no_parent)

  pub node_local : (c : Content) (new : Node) → IsNumbered c → IsLocal c → IsBelowInside new
      → ((old : Node) → node_at c new.id ≡ Some old → IsBelowInside old)
      → IsLocal (with_node c new)
  node_local c new numbered local below known =
      grind (
        arith,
        nat_tests,
        kept.fails_at,
        kept.filter-put,
        kept.find-put,
        no_child,
        no_parent,
        no_root,
      )

  pub removed_local : (c : Content) (id : ℕ) → IsNumbered c → IsLocal c → IsUnder id
      → ((old : Node) → node_at c id ≡ Some old → IsBelowInside old)
      → IsLocal (without_node c id)
  removed_local c id numbered local under known =
      grind (
        arith,
        nat_tests,
        kept.body-removed,
        kept.fails_at,
        kept.filter-removed,
        kept.find-removed,
        no_child,
        no_parent,
        no_root,
      )

  -- each child of an object inside is changed, and keeps its place, its name and its kind
  pub each_local : (c : Content) (change : Node → Node) (at : ℕ) → IsLocal c → KeepsPlaces c change
      → ((n : Node) → shown_of (change n) ≡ shown_of n)
      → ((n : Node) → has_parent at n ≡ false → change n ≡ n) → IsInside at
      → IsLocal (with_each c change)
  each_local c change at local places shows same inside =
      grind (
        arith,
        nat_tests,
        child_of-with_each,
        children,
        children_of-with_each,
        root_of-with_each,
        roots,
        shown,
      )
    where
      roots : (o : Option Node) → root_of c ≡ o → option_map change o ≡ o
      roots o is = grind (arith, nat_tests, root_of-parent)

      children : (id : ℕ) → (IsInside id → ⊥) → (name : List ℕ) → (o : Option Node)
          → child_of c id name ≡ o → option_map change o ≡ o
      children id other name o is = grind (arith, nat_tests, child_of-parent)

      shown : (nodes : List Node)
          → map shown_of (map change nodes)
          ≡ map shown_of nodes
      shown [] = refl
      shown (x ∷ xs) = cc (shows x, shown xs)

  -- ---- where things stand that are behind

  -- the parent of what is behind is inside
  pub parent_inside : (names : List (List ℕ)) (name : List ℕ) (node : Node)
      → found a ((f ++ names) ++ name ∷ []) ≡ Some node → IsBelowInside node
  parent_inside names name node is = grind (arith, nat_tests, child_of-parent, found_snoc)

  pub split_behind : (name : List ℕ) (names : List (List ℕ)) → f ++ name ∷ names
      ≡ (f ++ front (name ∷ names)) ++ last_name (name ∷ names) ∷ []
  split_behind name names = search (rules, split_last, names, append_assoc)

  pub under_below : (name : List ℕ) (names : List (List ℕ)) (node : Node)
      → found a (f ++ name ∷ names) ≡ Some node → IsBelowInside node
  under_below name names node is = grind (arith, nat_tests, parent_inside, split_behind)
