-- Contents stay tidy, whatever happens.
use Rattle.std.proofs.Common.{ℕ, ◌≡◌, ◌==◌, ◌⊎◌, inl, inr, Bool, true, false, cond, not, ◌&&◌, List}
use Rattle.std.proofs.Common.{[], ◌∷◌, map, filter, Option, Some, None, nat_lt, refl, sym, ap, ◌∙◌}
use Rattle.std.proofs.{Common.arith, lemmas.Bool.{not-true, cases_Bool, and_parts, and_from}}
use Rattle.std.{proofs.lemmas.Bool.{false≢true, Decides.nat_tests}, specs.List.{find, list_any}}
use Rattle.std.specs.{List.AllByRecursion, Option.{option_map, option_map_or}, Prelude.is_some}
use Rattle.std.specs.Prelude.{IsTrue}
use Rattle.room_entry.{specs.Pieces.same_text, proofs.{Alike.text_itself, Facts.Members.any_map}}
use Rattle.room_entry.proofs.Facts.Members.{any_agree, any_none, each_fails, each_weaker}
use Rattle.room_entry.proofs.{Facts.Members.each_filter, Texts.same_text-true}
use Rattle.room_rows.specs.Content.{Content, node_at, body_of, child_of, has_parent, put_node}
use Rattle.room_rows.specs.Content.{are_names_apart, same_parent, with_node, with_body}
use Rattle.room_rows.specs.{Content.{without_node, with_each, body_at}, declared.node.Node.Node}
use Rattle.room_rows.proofs.Frames.{has_its_parent, node_at-without_node-other, node_at-number}
use Rattle.room_rows.proofs.InPlace.{keeps_places, node_at-with_each, body_of-with_body-other}
use Rattle.room_rows.proofs.SamePlace.{IsSamePlace}
use Rattle.room_laws.{specs.Tidy.IsTidy, proofs.Kept.is_named}
use Rattle.room_rows.proofs.Lookups as lookups
use Rattle.room_laws.proofs.Kept as kept

-- one stands where the other does
abbrev clash : Node → Node → Bool
clash x y = same_parent x.parent y.parent && same_text x.name y.name

-- ---- names apart

apart_each : (g : Node → Node) → ((n : Node) → IsSamePlace (g n) n) → (nodes : List Node)
    → are_names_apart (map g nodes) ≡ are_names_apart nodes
apart_each g places [] = refl
apart_each g places (x ∷ xs) = grind (arith, nat_tests, any_agree, any_map, apart_each g places xs)

each_put : (P : Node → Type 0) (new : Node) (nodes : List Node) → P new → AllByRecursion P nodes
    → AllByRecursion P (put_node new nodes)
each_put P new [] here all = (here, tt)
each_put P new (x ∷ xs) here all = grind (arith, nat_tests, each_put P new xs here all.1)

module _ (id : ℕ) (new : Node) (parent : new.parent ≡ Some id) where
  clash_named : (y : Node) → is_named id new.name y ≡ false → clash new y ≡ false
  clash_named y isnt = elim (cases_Bool (clash new y)) [
    | inl is ↦
        let parts = and_parts (same_parent new.parent y.parent) (same_text new.name y.name) is in
        absurd (false≢true (sym isnt ∙ and_from (has_parent id y) (same_text y.name new.name)
        (on y.parent (ap (λ p. same_parent p y.parent) (sym parent) ∙ parts.0))
        (cc (same_text-true new.name y.name parts.1, text_itself new.name))))
    | inr differ ↦ differ
  ]
    where
      on : (p : Option ℕ) → same_parent (Some id) p ≡ true
          → option_map_or (λ (i : ℕ). i == id) p false ≡ true
      on p is = grind (arith, nat_tests)

  named_clash : (y : Node) → is_named id new.name y ≡ false → clash y new ≡ false
  named_clash y isnt = grind (arith, nat_tests)

  apart_put : (nodes : List Node) → are_names_apart nodes ≡ true
      → AllByRecursion (λ y. is_named id new.name y ≡ false) nodes
      → are_names_apart (put_node new nodes) ≡ true
  apart_put [] apart others = refl
  apart_put (x ∷ xs) apart others =
      let parts = and_parts (not (list_any (clash x) xs)) (are_names_apart xs) apart in
      on (nat_lt x.id new.id) (x.id == new.id) parts.0 parts.1 (apart_put xs parts.1 others.1)
    where
      on : (t u : Bool) → not (list_any (clash x) xs) ≡ true → are_names_apart xs ≡ true
          → are_names_apart (put_node new xs) ≡ true
          → are_names_apart (cond t (x ∷ put_node new xs) (cond u (new ∷ xs) (new ∷ x ∷ xs)))
          ≡ true
      on t u first later rest =
          grind (
            arith,
            nat_tests,
            any_none,
            clash_named,
            each_fails,
            each_put,
            each_weaker,
            named_clash,
          )

apart_filter : (keep : Node → Bool) (nodes : List Node) → are_names_apart nodes ≡ true
    → are_names_apart (filter keep nodes) ≡ true
apart_filter keep [] apart = refl
apart_filter keep (x ∷ xs) apart =
    let parts = and_parts (not (list_any (clash x) xs)) (are_names_apart xs) apart in
    on (keep x) parts.0 (apart_filter keep xs parts.1)
  where
    always : (ys : List Node) → AllByRecursion (λ y. clash x y ≡ false) ys
        → AllByRecursion (λ y. keep y ≡ true → clash x y ≡ false) ys
    always [] all = tt
    always (y ∷ ys) all = (λ is. all.0, always ys all.1)

    on : (t : Bool) → not (list_any (clash x) xs) ≡ true
        → are_names_apart (filter keep xs) ≡ true
        → are_names_apart (cond t (x ∷ filter keep xs) (filter keep xs)) ≡ true
    on true first rest = search (always, and_from, any_none, each_fails, each_filter, not-true)
    on false first rest = rest

none_each : (p : Node → Bool) (nodes : List Node) → find p nodes ≡ None
    → AllByRecursion (λ y. p y ≡ false) nodes
none_each p [] none = tt
none_each p (x ∷ xs) none =
    let parts = lookups.none_found p x xs none in (parts.0, none_each p xs parts.1)

-- ---- changes

module _ (a : Content) (tidy : IsTidy a) where
  -- each object is changed in its place
  pub each_tidy : (g : Node → Node) → ((n : Node) → IsSamePlace (g n) n) → IsTidy (with_each a g)
  each_tidy g places = record {
    names = apart_each g places a.nodes ∙ tidy.names;
    parents = parents;
    bodies = λ id none. tidy.bodies id (gone (node_at a id)
        (sym (node_at-with_each a g (keeps_places a g places) id) ∙ none));
  }
    where
      gone : (o : Option Node) → option_map g o ≡ None → o ≡ None
      gone o is = grind (arith, nat_tests)

      some_map : (o : Option Node) → is_some o ≡ true → is_some (option_map g o) ≡ true
      some_map o is = grind (arith, nat_tests)

      parents : (node : Node) (id : ℕ) → node_at (with_each a g) node.id ≡ Some node
          → node.parent ≡ Some id → IsTrue (is_some (node_at (with_each a g) id))
      parents node id at above =
          cc (
            node_at-with_each a g (keeps_places a g places) id,
            some_map (node_at a id)
                (on (node_at a node.id) refl
                (sym (node_at-with_each a g (keeps_places a g places) node.id) ∙ at)),
          )
        where
          on : (o : Option Node) → node_at a node.id ≡ o → option_map g o ≡ Some node
              → is_some (node_at a id) ≡ true
          on o is same = grind (arith, nat_tests, node_at-number)

  -- an object that is there gets bytes
  pub body_tidy : (id : ℕ) (bytes : List ℕ) → is_some (node_at a id) ≡ true
      → IsTidy (with_body a id bytes)
  body_tidy id bytes there = grind (arith, nat_tests, body_of-with_body-other)

  -- an object comes to a place that is free
  pub put_tidy : (new : Node) (id : ℕ) → new.parent ≡ Some id → is_some (node_at a id) ≡ true
      → child_of a id new.name ≡ None → IsTidy (with_node a new)
  put_tidy new id parent there free = record {
    names = search (apart_put, is_named, none_each);
    parents = parents;
    bodies = λ other none. tidy.bodies other (elsewhere other none (cases_Bool (other == new.id)));
  }
    where
      here : node_at (with_node a new) new.id ≡ Some new
      here = lookups.find-put_same new a.nodes

      apart : (other : ℕ) → (other == new.id) ≡ false
          → node_at (with_node a new) other ≡ node_at a other
      apart other isnt = grind (arith, nat_tests, lookups.find-put_other)

      elsewhere : (other : ℕ) → node_at (with_node a new) other ≡ None
          → ((other == new.id) ≡ true) ⊎ ((other == new.id) ≡ false) → node_at a other ≡ None
      elsewhere other none (inl is) = grind (arith, nat_tests, here)
      elsewhere other none (inr isnt) = sym (apart other isnt) ∙ none

      still : (other : ℕ) → is_some (node_at a other) ≡ true
          → ((other == new.id) ≡ true) ⊎ ((other == new.id) ≡ false)
          → is_some (node_at (with_node a new) other) ≡ true
      still other was (inl is) = grind (arith, nat_tests, here)
      still other was (inr isnt) = ap is_some (apart other isnt) ∙ was

      above : (node : Node) (other : ℕ) → node_at (with_node a new) node.id ≡ Some node
          → node.parent ≡ Some other
          → ((node.id == new.id) ≡ true) ⊎ ((node.id == new.id) ≡ false)
          → is_some (node_at a other) ≡ true
      above node other at up (inl is) = grind (arith, nat_tests, here)
      above node other at up (inr isnt) = tidy.parents node other (sym (apart node.id isnt) ∙ at) up

      parents : (node : Node) (other : ℕ) → node_at (with_node a new) node.id ≡ Some node
          → node.parent ≡ Some other → IsTrue (is_some (node_at (with_node a new) other))
      parents node other at up = grind (arith, nat_tests, above, still)

  -- an object without children is removed
  pub gone_tidy : (id : ℕ) → ((name : List ℕ) → child_of a id name ≡ None)
      → IsTidy (without_node a id)
  gone_tidy id childless = grind (arith, nat_tests, apart_filter, bytes, parents)
    where
      dropped : (rows : List (ℕ × List ℕ))
          → body_at (filter (λ (row : ℕ × List ℕ). not (row.0 == id)) rows) id ≡ None
      dropped [] = refl
      dropped (row ∷ rows) = on (row.0 == id) refl (dropped rows)
        where
          on : (t : Bool) → (row.0 == id) ≡ t
              → body_at (filter (λ (r : ℕ × List ℕ). not (r.0 == id)) rows) id ≡ None
              → body_at (cond (not t) (row ∷ filter (λ (r : ℕ × List ℕ). not (r.0 == id)) rows)
              (filter (λ (r : ℕ × List ℕ). not (r.0 == id)) rows)) id ≡ None
          on t is rest = grind (arith, nat_tests)

      bytes : (other : ℕ) → node_at (without_node a id) other ≡ None
          → ((other == id) ≡ true) ⊎ ((other == id) ≡ false)
          → body_of (without_node a id) other ≡ None
      bytes other none (inl is) = grind (arith, nat_tests, dropped)
      bytes other none (inr isnt) =
          grind (arith, nat_tests, kept.body-removed, node_at-without_node-other)

      no_child : (node : Node) → node_at a node.id ≡ Some node → node.parent ≡ Some id → ⊥
      no_child node at up =
          false≢true (sym
          (lookups.stands-each (λ (n : Node). is_named id node.name n ≡ false) a.nodes
          node (none_each (is_named id node.name) a.nodes (childless node.name))
          (lookups.stands-found (λ (n : Node). n.id == node.id) a.nodes node at))
          ∙ and_from (has_parent id node) (same_text node.name node.name)
          (has_its_parent id node up) (text_itself node.name))

      found_before : (node : Node) → node_at (without_node a id) node.id ≡ Some node
          → ((node.id == id) ≡ true) ⊎ ((node.id == id) ≡ false) → node_at a node.id ≡ Some node
      found_before node at given =
          grind (arith, nat_tests, lookups.find-kept_gone, node_at-without_node-other)

      parents : (node : Node) (other : ℕ) → node_at (without_node a id) node.id ≡ Some node
          → node.parent ≡ Some other → IsTrue (is_some (node_at (without_node a id) other))
      parents node other at up =
          grind (arith, nat_tests, found_before, no_child, node_at-without_node-other)
