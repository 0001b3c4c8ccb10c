-- Views after an object was made or removed.
use Rattle.std.proofs.Common.{rules, ℕ, ◌≡◌, ◌==◌, ◌⊎◌, inl, inr, Bool, true, false, not, List, []}
use Rattle.std.proofs.Common.{◌∷◌, ◌++◌, length, length-append, Option, Some, None, refl, sym, ap}
use Rattle.std.proofs.{Common.{subst, ◌∙◌, append_assoc, append-nil, arith}, lemmas.Bool.eq-eqb}
use Rattle.std.proofs.lemmas.Bool.{and_parts, cases_Bool, Decides.nat_tests}
use Rattle.std.specs.{Option.option_map, Prelude.{option_and_then, is_none}}
use Rattle.room_entry.{specs.Pieces.same_text, proofs.{Alike.text_itself, Texts.same_text-true}}
use Rattle.room_rows.specs.Content.{Content, child_of, root_of, node_at, has_parent, body_of}
use Rattle.room_rows.specs.Content.{with_node, with_body, without_node, are_names_apart}
use Rattle.room_rows.{specs.declared.node.Node.Node, proofs.Frames.{child_of-parent, child_of-name}}
use Rattle.room_rows.proofs.{Frames.{parent_is, has_its_parent}, InPlace.body_of-with_body}
use Rattle.room_rows.proofs.InPlace.{body_of-with_body-other}
use Rattle.room_machine.specs.{Site.{front, last_name}, Step.IsFree}
use Rattle.room_laws.specs.{Outside.{sight, found, found_from, unnumbered, view}, Tidy.IsNumbered}
use Rattle.room_laws.proofs.{Behind.free_none, Changed.nodes_found, Kept.is_named}
use Rattle.room_laws.proofs.OnePlace.{found_snoc, found_there, head_same, not_empty, one_place}
use Rattle.room_laws.proofs.OnePlace.{split_last, tail_same}
use Rattle.room_laws.proofs.Kept as kept

-- ---- paths that go on from others

abbrev pub GoesOn : List (List ℕ) → List (List ℕ) → Type 0
GoesOn path q = (rest : List (List ℕ)) × (q ≡ path ++ rest)

pub goes_on : (path q : List (List ℕ)) → GoesOn path q ⊎ (GoesOn path q → ⊥)
goes_on [] q = inl (q, refl)
goes_on (x ∷ path) [] = inr (λ is. not_empty x (path ++ is.0) is.1)
goes_on (x ∷ path) (y ∷ q) = on (cases_Bool (same_text y x)) (goes_on path q)
  where
    on : (same_text y x ≡ true) ⊎ (same_text y x ≡ false)
        → GoesOn path q ⊎ (GoesOn path q → ⊥)
        → GoesOn (x ∷ path) (y ∷ q) ⊎ (GoesOn (x ∷ path) (y ∷ q) → ⊥)
    on (inl same) (inl is) =
        inl (search (rules, same_text-true))
    on (inl same) (inr isnt) = inr (λ is. isnt (is.0, tail_same y x q (path ++ is.0) is.1))
    on (inr differ) other = grind (arith, nat_tests, head_same, text_itself)

-- a path doesn't go on from one that is longer
pub front_shorter : (name : List ℕ) (names : List (List ℕ))
    → GoesOn (name ∷ names) (front (name ∷ names)) → ⊥
front_shorter name names (rest, is) =
    let all = ap (λ (l : List (List ℕ)). length l) (split_last name names)
    ∙ length-append (front (name ∷ names)) (last_name (name ∷ names) ∷ []) in
    search (rules, is, length-append, rest)

append_from : (content : Content) (node : Node) (names more : List (List ℕ))
    → found_from content node (names ++ more)
    ≡ option_and_then (λ n. found_from content n more) (found_from content node names)
append_from content node [] more = refl
append_from content node (name ∷ names) more =
    on (child_of content node.id name) (λ child. append_from content child names more)
  where
    on : (o : Option Node)
        → ((child : Node) → found_from content child (names ++ more)
        ≡ option_and_then (λ n. found_from content n more) (found_from content child names))
        → option_and_then (λ child. found_from content child (names ++ more)) o
        ≡ option_and_then (λ n. found_from content n more)
        (option_and_then (λ child. found_from content child names) o)
    on o next = grind (arith, nat_tests)

-- what a path leads to that goes on from another
pub found_append : (content : Content) (names more : List (List ℕ))
    → found content (names ++ more)
    ≡ option_and_then (λ n. found_from content n more) (found content names)
found_append content names more = grind (arith, nat_tests, append_from)

-- ---- where each step of a walk is as before

module _ (a c : Content) (root : root_of c ≡ root_of a) (Ok : List (List ℕ) → Type 0)
    (same : (pre : List (List ℕ)) (node : Node) (name : List ℕ) → found a pre ≡ Some node
    → Ok (pre ++ name ∷ []) → child_of c node.id name ≡ child_of a node.id name) where
  -- from an object on, where that holds of each path from it on
  pub walk_below : (names pre : List (List ℕ)) (node : Node) → found a pre ≡ Some node
      → ((x : List ℕ) (r s : List (List ℕ)) → names ≡ x ∷ r ++ s → Ok (pre ++ x ∷ r))
      → found_from c node names ≡ found_from a node names
  walk_below [] pre node is ok = refl
  walk_below (name ∷ names) pre node is ok =
      ap (option_and_then (λ child. found_from c child names))
      (same pre node name is (ok name [] names refl))
      ∙ on (child_of a node.id name) refl
      (λ child at. walk_below names (pre ++ name ∷ []) child
      (found_snoc a pre name ∙ ap (option_and_then (λ n. child_of a n.id name)) is ∙ at)
      (λ x r s e. subst Ok (sym (append_assoc pre (name ∷ []) (x ∷ r)))
      (ok name (x ∷ r) s (ap (λ (l : List (List ℕ)). name ∷ l) e))))
    where
      on : (o : Option Node) → child_of a node.id name ≡ o
          → ((child : Node) → child_of a node.id name ≡ Some child
          → found_from c child names ≡ found_from a child names)
          → option_and_then (λ child. found_from c child names) o
          ≡ option_and_then (λ child. found_from a child names) o
      on o is more = grind (arith, nat_tests)

  pub walk_same : (path : List (List ℕ)) → ((r s : List (List ℕ)) → path ≡ r ++ s → Ok r)
      → found c path ≡ found a path
  walk_same path ok =
      ap (option_and_then (λ r. found_from c r path)) root ∙ on (root_of a) refl
    where
      on : (o : Option Node) → root_of a ≡ o
          → option_and_then (λ r. found_from c r path) o
          ≡ option_and_then (λ r. found_from a r path) o
      on None is = refl
      on (Some r) is =
          walk_below path [] r (ap (option_and_then (λ x. found_from a x [])) is)
          (λ x r s e. ok (x ∷ r) s e)

-- ---- an object is made

module _ (a : Content) (numbered : IsNumbered a) (name : List ℕ) (names : List (List ℕ))
    (folder : Node) (at : found a (front (name ∷ names)) ≡ Some folder)
    (absent : found a (name ∷ names) ≡ None)
    (new : Node) (free : IsFree a new.id) (parent : new.parent ≡ Some folder.id)
    (named : new.name ≡ last_name (name ∷ names))
    (orphans : (x : List ℕ) → child_of a new.id x ≡ None) where
  abbrev pub grown : Content
  grown = with_node a new

  abbrev pub last : List ℕ
  last = last_name (name ∷ names)

  abbrev pub path : List (List ℕ)
  path = name ∷ names

  fails_new : (p : Node → Bool) → kept.Fails p new.id a.nodes
  fails_new p = grind (arith, nat_tests, free_none, kept.fails_at)

  root_grown : root_of grown ≡ root_of a
  root_grown =
      kept.find-put (λ (n : Node). is_none n.parent) new a.nodes (ap is_none parent)
      (fails_new (λ (n : Node). is_none n.parent))

  -- where the new object is the child of that name, the path is its own
  step_new : (pre : List (List ℕ)) (node : Node) (x : List ℕ) → found a pre ≡ Some node
      → is_named node.id x new ≡ true → pre ++ x ∷ [] ≡ path
  step_new pre node x is passes =
      let parts = and_parts (has_parent node.id new) (same_text new.name x) passes in
      let number : node.id ≡ folder.id = grind (arith, nat_tests, parent_is) in
      cc (
        one_place a numbered pre _ node folder is at number,
        same_text-true new.name x parts.1,
        named,
        split_last name names,
      )

  step_same : (pre : List (List ℕ)) (node : Node) (x : List ℕ) → found a pre ≡ Some node
      → (pre ++ x ∷ [] ≡ path → ⊥) → child_of grown node.id x ≡ child_of a node.id x
  step_same pre node x is other = elim (cases_Bool (is_named node.id x new)) [
    | inl passes ↦ absurd (other (step_new pre node x is passes))
    | inr fails ↦ search (fails_new, is_named, kept.find-put)
  ]

  grown_apart : (q : List (List ℕ)) → (GoesOn path q → ⊥) → found grown q ≡ found a q
  grown_apart q apart =
      walk_same a grown root_grown (λ r. r ≡ path → ⊥) step_same q
      (λ r s e same. apart (s, e ∙ ap (λ (l : List (List ℕ)). l ++ s) same))

  child_new : child_of grown folder.id last ≡ Some new
  child_new =
      kept.find-put_new (is_named folder.id last) new a.nodes
      (grind (arith, nat_tests, has_its_parent, text_itself))
      (cc (at, found_snoc a (front path) last, split_last name names, absent))

  pub found_new : found grown path ≡ Some new
  found_new =
      cc (
        split_last name names,
        found_snoc grown (front path) last,
        grown_apart (front path) (front_shorter name names),
        at,
        child_new,
      )

  pub none_below : (x : List ℕ) → child_of grown new.id x ≡ None
  none_below x =
      kept.find-put (is_named new.id x) new a.nodes fails (fails_new (is_named new.id x))
      ∙ orphans x
    where
      fails : is_named new.id x new ≡ false
      fails = grind (arith, nat_tests, found_there, free_none, is_named, parent_is)

  -- at each other path the same is found
  pub grown_other : (q : List (List ℕ)) → (q ≡ path → ⊥) → found grown q ≡ found a q
  grown_other q other = on (goes_on path q)
    where
      beyond : (rest : List (List ℕ)) → q ≡ path ++ rest → found grown q ≡ found a q
      beyond [] is = absurd (other (is ∙ append-nil path))
      beyond (y ∷ ys) is =
          cc (
            is,
            found_append grown path (y ∷ ys),
            found_new,
            none_below y,
            absent,
            found_append a path (y ∷ ys),
            is,
          )

      on : GoesOn path q ⊎ (GoesOn path q → ⊥) → found grown q ≡ found a q
      on (inl is) = beyond is.0 is.1
      on (inr apart) = grown_apart q apart

  pub grown_view : (q : List (List ℕ)) → (q ≡ path → ⊥) → view grown q ≡ view a q
  grown_view q other = ap (option_map (sight a)) (grown_other q other)

  pub grown_here : view grown path ≡ Some (unnumbered new, body_of a new.id)
  grown_here = ap (option_map (sight a)) found_new

  -- with bytes
  pub filled_view : (bytes : List ℕ) (q : List (List ℕ)) → (q ≡ path → ⊥)
      → view (with_body grown new.id bytes) q ≡ view a q
  filled_view bytes q other =
      cc (
        nodes_found grown (with_body grown new.id bytes) refl q,
        grown_other q other,
        on (found a q) refl,
      )
    where
      on : (o : Option Node) → found a q ≡ o
          → option_map (sight (with_body grown new.id bytes)) o ≡ option_map (sight a) o
      on o is = grind (arith, nat_tests, body_of-with_body-other, found_there, free_none)

  pub filled_here : (bytes : List ℕ)
      → view (with_body grown new.id bytes) path ≡ Some (unnumbered new, Some bytes)
  filled_here bytes = grind (arith, nat_tests, body_of-with_body, found_new, nodes_found)

-- ---- an object where it stands

module _ (a : Content) (numbered : IsNumbered a) (name : List ℕ) (names : List (List ℕ))
    (target : Node) (at : found a (name ∷ names) ≡ Some target)
    (folder : Node) (above : found a (front (name ∷ names)) ≡ Some folder) where
  pub is_child : child_of a folder.id (last_name (name ∷ names)) ≡ Some target
  is_child =
      cc (
        above,
        found_snoc a (front (name ∷ names)) (last_name (name ∷ names)),
        split_last name names,
        at,
      )

  pub its_parent : target.parent ≡ Some folder.id
  its_parent = child_of-parent a folder.id (last_name (name ∷ names)) target is_child

  pub its_name : target.name ≡ last_name (name ∷ names)
  its_name = child_of-name a folder.id (last_name (name ∷ names)) target is_child

  pub is_target : (old : Node) → node_at a target.id ≡ Some old → target ≡ old
  is_target old is = grind (arith, nat_tests, found_there)

  pub step_target : (pre : List (List ℕ)) (node : Node) (x : List ℕ) → found a pre ≡ Some node
      → is_named node.id x target ≡ true → pre ++ x ∷ [] ≡ name ∷ names
  step_target pre node x is passes =
      let parts = and_parts (has_parent node.id target) (same_text target.name x) passes in
      let number : node.id ≡ folder.id = grind (arith, nat_tests, its_parent, parent_is) in
      cc (
        one_place a numbered pre (front (name ∷ names)) node folder is above number,
        same_text-true target.name x parts.1,
        its_name,
        split_last name names,
      )

-- ---- an object is removed

module _ (a : Content) (numbered : IsNumbered a) (apart : are_names_apart a.nodes ≡ true)
    (name : List ℕ) (names : List (List ℕ)) (target : Node)
    (at : found a (name ∷ names) ≡ Some target)
    (childless : (x : List ℕ) → child_of a target.id x ≡ None) where
  -- the folder that it stands in
  module _ (folder : Node) (above : found a (front (name ∷ names)) ≡ Some folder) where
    fails_at : (p : Node → Bool) → p target ≡ false → kept.Fails p target.id a.nodes
    fails_at p fails = grind (arith, nat_tests, is_target, kept.fails_at)

    step_kept : (pre : List (List ℕ)) (node : Node) (x : List ℕ) → found a pre ≡ Some node
        → (pre ++ x ∷ [] ≡ name ∷ names → ⊥)
        → child_of (without_node a target.id) node.id x ≡ child_of a node.id x
    step_kept pre node x is other = elim (cases_Bool (is_named node.id x target)) [
      | inl passes ↦ search (step_target)
      | inr fails ↦ search (fails_at, is_named, kept.find-removed)
    ]

    gone_apart : (q : List (List ℕ)) → (GoesOn (name ∷ names) q → ⊥)
        → found (without_node a target.id) q ≡ found a q
    gone_apart q other =
        walk_same a (without_node a target.id)
        (kept.find-removed (λ (n : Node). is_none n.parent) target.id a.nodes
        (fails_at (λ (n : Node). is_none n.parent)
        (ap is_none (its_parent a numbered name names target at folder above))))
        (λ r. r ≡ name ∷ names → ⊥) step_kept q
        (λ r s e same. other (s, e ∙ ap (λ (l : List (List ℕ)). l ++ s) same))

    pub found_gone : found (without_node a target.id) (name ∷ names) ≡ None
    found_gone =
        ap (found (without_node a target.id)) (split_last name names)
        ∙ found_snoc (without_node a target.id) (front (name ∷ names)) (last_name (name ∷ names))
        ∙ ap (option_and_then
        (λ n. child_of (without_node a target.id) n.id (last_name (name ∷ names))))
        (gone_apart (front (name ∷ names)) (front_shorter name names) ∙ above)
        ∙ kept.find-dropped folder.id (last_name (name ∷ names))
        (λ (n : Node). not (n.id == target.id)) target
        (ap not (eq-eqb target.id target.id refl)) a.nodes apart
        (is_child a numbered name names target at folder above)

    pub gone_other : (q : List (List ℕ)) → (q ≡ name ∷ names → ⊥)
        → found (without_node a target.id) q ≡ found a q
    gone_other q other = on (goes_on (name ∷ names) q)
      where
        beyond : (rest : List (List ℕ)) → q ≡ (name ∷ names) ++ rest
            → found (without_node a target.id) q ≡ found a q
        beyond [] is = absurd (other (is ∙ append-nil (name ∷ names)))
        beyond (y ∷ ys) is =
            cc (
              is,
              found_append (without_node a target.id) (name ∷ names) (y ∷ ys),
              found_gone,
              childless y,
              at,
              found_append a (name ∷ names) (y ∷ ys),
              is,
            )

        on : GoesOn (name ∷ names) q ⊎ (GoesOn (name ∷ names) q → ⊥)
            → found (without_node a target.id) q ≡ found a q
        on (inl is) = beyond is.0 is.1
        on (inr away) = gone_apart q away

    pub gone_view : (q : List (List ℕ)) → (q ≡ name ∷ names → ⊥)
        → view (without_node a target.id) q ≡ view a q
    gone_view q other = search (gone_other, on)
      where
        on : (o : Option Node) → found a q ≡ o
            → option_map (sight (without_node a target.id)) o ≡ option_map (sight a) o
        on None is = refl
        on (Some n) is = grind (arith, nat_tests, kept.body-removed, one_place)

    pub gone_here : view (without_node a target.id) (name ∷ names) ≡ None
    gone_here = ap (option_map (sight (without_node a target.id))) found_gone
