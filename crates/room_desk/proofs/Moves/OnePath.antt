-- An object stands at one path, so names alone say what a way meets.
use Rattle.std.proofs.Common.{rules, ◌≡◌, ℕ, suc, ◌+◌, ◌==◌, Bool, true, false, ◌&&◌, List, [], ◌∷◌}
use Rattle.std.proofs.Common.{◌++◌, ◌<◌, ◌≤◌, length, get_or, drop, Option, Some, None, refl, sym}
use Rattle.std.proofs.{Common.{subst, inl, inr, append_assoc, arith}, lemmas.Bool.and_parts}
use Rattle.std.proofs.lemmas.Bool.{eqb-true, false≢true, and_right, or_cases, or_right}
use Rattle.std.proofs.lemmas.{Bool.Decides.nat_tests, List.{append-nil, drop_more, get_or_read}}
use Rattle.std.{proofs.{lemmas.Option.same_Some, Math.Seq.drop-length}, specs.List.list_any}
use Rattle.std.specs.Option.{option_map_or}
use Rattle.room_entry.{specs.Pieces.same_text, proofs.{Alike.text_itself, Texts.same_text-true}}
use Rattle.room_entry.proofs.Facts.Booleans.{same_truth}
use Rattle.room_rows.specs.{declared.node.Node.Node, Content.{Content, child_of, node_at, root_of}}
use Rattle.room_rows.{specs.Sound.names_up, proofs.Frames.{Rises, child_of-is_there, child_of-name}}
use Rattle.room_rows.proofs.Frames.{child_of-parent, root_of-is_there, root_of-parent}
use Rattle.room_machine.specs.{Site.{Site, site_at}, Stored.{stored_from, stored_along}}
use Rattle.room_desk.specs.Moving.{begins}

begins_more : (names rest : List (List ℕ)) → begins names (names ++ rest) ≡ true
begins_more [] rest = refl
begins_more (name ∷ names) rest = grind (arith, nat_tests, text_itself, begins_more names rest)

-- ---- comparing name by name

pub too_many : (names others : List (List ℕ)) → length others < length names
    → false ≡ begins names others
too_many [] others more = absurd (let wrong : ⊥ = omega arith in wrong)
too_many (name ∷ names) [] more = refl
too_many (name ∷ names) (other ∷ others) more =
    sym (and_right (same_text name other) (begins names others)
    (sym (too_many names others (omega arith))))

module _ (names others : List (List ℕ)) (i : ℕ)
    (sofar : begins (drop i names) (drop i others) ≡ begins names others) where
  pub all_compared : i ≡ length names → true ≡ begins names others
  all_compared end = grind (arith, nat_tests, drop-length)

  module _ (below : i < length names) (fits : length names ≤ length others) (name other : List ℕ)
      (name_is : name ≡ get_or names i name) (other_is : other ≡ get_or others i other) where
    within : i < length others
    within = omega arith

    one_further : begins (drop i names) (drop i others)
        ≡ (same_text name other && begins (drop (i + 1) names) (drop (i + 1) others))
    one_further = grind (arith, nat_tests, drop_more, get_or_read, within)

    pub one_differs : false ≡ same_text name other → false ≡ begins names others
    one_differs differs = grind (arith, nat_tests, one_further)

    pub one_same : true ≡ same_text name other
        → begins (drop (i + 1) names) (drop (i + 1) others) ≡ begins names others
    one_same same = grind (arith, nat_tests, one_further)

-- ---- one path

module _ (rows : Content) (rises : Rises rows) where
  -- the names from the root to the object
  pub record IsUp (node : Node) (path : List (List ℕ)) : Type 0 where
    pub steps : ℕ
    pub names : (more : ℕ) → names_up (steps + more) rows node ≡ path

  one_path : (node : Node) (path other : List (List ℕ)) → IsUp node path → IsUp node other
      → path ≡ other
  one_path node path other first second =
      let turned : first.steps + second.steps ≡ second.steps + first.steps = omega arith in
      cc (first.names second.steps, turned, second.names first.steps)

  up_root : (root : Node) → root.parent ≡ None → IsUp root []
  up_root root none = record { steps = 0; names = λ more. on (0 + more) }
    where
      on : (n : ℕ) → names_up n rows root ≡ []
      on n = grind (arith, nat_tests)

  up_child : (node child : Node) (path : List (List ℕ)) (name : List ℕ) → IsUp node path
      → node_at rows node.id ≡ Some node → child_of rows node.id name ≡ Some child
      → IsUp child (path ++ name ∷ [])
  up_child node child path name up there is = record {
    steps = suc up.steps;
    names = λ more.
        let further : suc up.steps + more ≡ suc (up.steps + more) = omega arith in
        grind (arith, nat_tests, child_of-name, child_of-parent);
  }

  -- ---- what a way meets

  module _ (target : Node) (there : node_at rows target.id ≡ Some target) (front : List (List ℕ))
      (up : IsUp target front) where
    abbrev meets : List Site → Bool
    meets sites = list_any (λ (s : Site). s.node.id == target.id) sites

    same_path : (node : Node) (path : List (List ℕ)) → node_at rows node.id ≡ Some node
        → IsUp node path → (node.id == target.id) ≡ true → front ≡ path
    same_path node path found up_node is =
        let same : target ≡ node = search (rules, same_Some, node, eqb-true, node.id, is, found) in
        one_path node front path (subst (λ (n : Node). IsUp n front) same up) up_node

    met_from : (names path : List (List ℕ)) (node : Node) → node_at rows node.id ≡ Some node
        → IsUp node path → meets (stored_from rows path node names) ≡ true
        → begins front (path ++ names) ≡ true
    met_from [] path node found up_node met = elim (or_cases (node.id == target.id) false met) [
      | inl is ↦ cc (same_path node path found up_node is, begins_more path [])
      | inr wrong ↦ absurd (false≢true wrong)
    ]
    met_from (name ∷ names) path node found up_node met =
        elim
        (or_cases (node.id == target.id)
        (meets (option_map_or (λ child. stored_from rows (path ++ name ∷ []) child names)
        (child_of rows node.id name) [])) met) [
          | inl is ↦ cc (same_path node path found up_node is, begins_more path (name ∷ names))
          | inr below ↦
              on (child_of rows node.id name)
              (λ child is. met_from names (path ++ name ∷ []) child
              (child_of-is_there rows rises node.id name child is)
              (up_child node child path name up_node found is)) below
        ]
      where
        on : (o : Option Node)
            → ((child : Node) → o ≡ Some child
            → meets (stored_from rows (path ++ name ∷ []) child names) ≡ true
            → begins front ((path ++ name ∷ []) ++ names) ≡ true)
            → meets (option_map_or (λ child. stored_from rows (path ++ name ∷ []) child names) o [])
            ≡ true → begins front (path ++ name ∷ names) ≡ true
        on None known met = absurd (false≢true met)
        on (Some child) known met = cc (append_assoc path (name ∷ []) names, known child refl met)

    -- what is met on a way stands at a beginning of it
    pub met_along : (path : List (List ℕ)) → meets (stored_along rows path) ≡ true
        → begins front path ≡ true
    met_along path met =
        grind (arith, nat_tests, met_from, root_of-is_there, root_of-parent, up_root)

  -- ---- where an object is found

  up_from : (names path : List (List ℕ)) (node : Node) (site : Site)
      → node_at rows node.id ≡ Some node → IsUp node path
      → site_at (stored_from rows path node names) names ≡ Some site
      → IsUp site.node (path ++ names)
  up_from [] path node site found up is = grind (arith, nat_tests, append-nil)
  up_from (name ∷ names) path node site found up is =
      on (child_of rows node.id name)
      (λ child known. up_from names (path ++ name ∷ []) child site
      (child_of-is_there rows rises node.id name child known)
      (up_child node child path name up found known)) is
    where
      on : (o : Option Node)
          → ((child : Node) → o ≡ Some child
          → site_at (stored_from rows (path ++ name ∷ []) child names) names ≡ Some site
          → IsUp site.node ((path ++ name ∷ []) ++ names))
          → site_at (option_map_or (λ child. stored_from rows (path ++ name ∷ []) child names) o [])
          names ≡ Some site → IsUp site.node (path ++ name ∷ names)
      on None known is = absurd (let wrong : ⊥ = cc in wrong)
      on (Some child) known is =
          subst (IsUp site.node) (append_assoc path (name ∷ []) names) (known child refl is)

  pub up_along : (path : List (List ℕ)) (site : Site)
      → site_at (stored_along rows path) path ≡ Some site → IsUp site.node path
  up_along path site is =
      on (root_of rows) (λ root known. up_from path [] root site
      (root_of-is_there rows rises root known) (up_root root (root_of-parent rows root known))) is
    where
      on : (o : Option Node)
          → ((root : Node) → o ≡ Some root
          → site_at (stored_from rows [] root path) path ≡ Some site → IsUp site.node path)
          → site_at (option_map_or (λ root. stored_from rows [] root path) o []) path ≡ Some site
          → IsUp site.node path
      on None known is = absurd (let wrong : ⊥ = cc in wrong)
      on (Some root) known is = known root refl is

  -- ---- a way that begins so meets it

  begun_from : (names others path : List (List ℕ)) (node : Node) (site : Site)
      → site_at (stored_from rows path node names) names ≡ Some site → begins names others ≡ true
      → list_any (λ (s : Site). s.node.id == site.node.id) (stored_from rows path node others)
      ≡ true
  begun_from [] [] path node site is begun = grind (arith, nat_tests)
  begun_from [] (other ∷ others) path node site is begun = grind (arith, nat_tests)
  begun_from (name ∷ names) [] path node site is begun = absurd (false≢true begun)
  begun_from (name ∷ names) (other ∷ others) path node site is begun =
      let parts = and_parts (same_text name other) (begins names others) begun in
      or_right (node.id == site.node.id)
      (list_any (λ (s : Site). s.node.id == site.node.id)
      (option_map_or (λ child. stored_from rows (path ++ other ∷ []) child others)
      (child_of rows node.id other) []))
      (subst (λ (n : List ℕ). list_any (λ (s : Site). s.node.id == site.node.id)
      (option_map_or (λ child. stored_from rows (path ++ n ∷ []) child others)
      (child_of rows node.id n) []) ≡ true) (same_text-true name other parts.0)
      (on (child_of rows node.id name)
      (λ child at. begun_from names others (path ++ name ∷ []) child site at parts.1) is))
    where
      on : (o : Option Node)
          → ((child : Node) → site_at (stored_from rows (path ++ name ∷ []) child names) names
          ≡ Some site → list_any (λ (s : Site). s.node.id == site.node.id)
          (stored_from rows (path ++ name ∷ []) child others) ≡ true)
          → site_at (option_map_or (λ child. stored_from rows (path ++ name ∷ []) child names) o [])
          names ≡ Some site → list_any (λ (s : Site). s.node.id == site.node.id)
          (option_map_or (λ child. stored_from rows (path ++ name ∷ []) child others) o []) ≡ true
      on None known is = absurd (let wrong : ⊥ = cc in wrong)
      on (Some child) known is = known child is

  begun_along : (names others : List (List ℕ)) (site : Site)
      → site_at (stored_along rows names) names ≡ Some site → begins names others ≡ true
      → list_any (λ (s : Site). s.node.id == site.node.id) (stored_along rows others) ≡ true
  begun_along names others site is begun = grind (arith, nat_tests, begun_from)

  -- A way meets the object of a path exactly if it begins with the path.
  pub met_by_names : (path others : List (List ℕ)) (site : Site)
      → node_at rows site.node.id ≡ Some site.node
      → site_at (stored_along rows path) path ≡ Some site
      → list_any (λ (s : Site). s.node.id == site.node.id) (stored_along rows others)
      ≡ begins path others
  met_by_names path others site there is =
      grind (arith, nat_tests, begun_along, met_along, same_truth, up_along)
