-- Along a path the full lists are those that are stored.
use Rattle.std.proofs.Common.{◌≡◌, ℕ, Bool, true, false, cond, List, [], ◌∷◌, ◌++◌, map, length}
use Rattle.std.proofs.{Common.{Option, Some, None, refl, ap, arith}, lemmas.Bool.Decides.nat_tests}
use Rattle.std.specs.Option.{option_map_or}
use Rattle.room_entry.{specs.{Ace.Ace, declared.object.Which.Which}, proofs.Same.entries_equal}
use Rattle.room_entry.proofs.Facts.Booleans.{implied}
use Rattle.room_rows.specs.{declared.node.Node.Node, Held.{held_of, full_of, is_linked}}
use Rattle.room_rows.specs.{Content.{Content, node_at, parent_of, child_of, root_of}, Walk.behind}
use Rattle.room_rows.specs.{Walk.walk_from, Full.{fulls, fulls_below, full_below}, Law.AllAgree}
use Rattle.room_rows.{specs.{Law.agrees_with, Pass.pass}, proofs.Frames.{Rises, rows-rise}}
use Rattle.room_rows.proofs.Frames.{root_of-is_there, child_of-is_there, child_of-parent}
use Rattle.room_inherit.{specs.Laws.StoredAlongPath, proofs.Stored.all_found}

module _ (content : Content) (rises : Rises content) (which : Which)
    (all : AllAgree content which) where
  abbrev stored : Node → List Ace
  stored node = full_of (held_of which node)

  -- a child's full list below the stored one of its parent
  below : (parent child : Node) → node_at content child.id ≡ Some child
      → parent_of content child ≡ Some parent
      → full_below which parent (stored parent) child ≡ stored child
  below parent child there above = grind (arith, nat_tests, all_found, on)
    where
      on : (t : Bool) → is_linked (held_of which child) (Some (held_of which parent)) ≡ t
          → agrees_with which child parent ≡ true
          → (held_of which child).own
          ++ cond t (pass child.kind (stored parent)) (held_of which child).inh ≡ stored child
      on true linked agree =
          cc (entries_equal (held_of which child).inh (pass child.kind (stored parent))
          (implied (is_linked (held_of which child) (Some (held_of which parent))) _ agree linked))
      on false linked agree = refl

  child_above : (parent child : Node) (name : List ℕ) → node_at content parent.id ≡ Some parent
      → child_of content parent.id name ≡ Some child → parent_of content child ≡ Some parent
  child_above parent child name there found = grind (arith, nat_tests, child_of-parent)

  along : (names : List (List ℕ)) (node : Node) → node_at content node.id ≡ Some node
      → (rest : List Node) × ((walk_from content node names).chain ≡ node ∷ rest)
      × (fulls_below which node (stored node) rest ≡ map stored rest)
  along [] node there = ([], refl, refl)
  along (name ∷ names) node there =
      on (child_of content node.id name) refl
      (λ child found. along names child (child_of-is_there content rises node.id name child found))
    where
      on : (o : Option Node) → child_of content node.id name ≡ o
          → ((child : Node) → child_of content node.id name ≡ Some child → (rest : List Node)
          × ((walk_from content child names).chain ≡ child ∷ rest)
          × (fulls_below which child (stored child) rest ≡ map stored rest))
          → (rest : List Node)
          × ((option_map_or (λ child. behind node (walk_from content child names)) o
          (record { chain = node ∷ []; rest = length (name ∷ names) })).chain ≡ node ∷ rest)
          × (fulls_below which node (stored node) rest ≡ map stored rest)
      on None found more = ([], refl, refl)
      on (Some child) found more =
          let on = more child found in
          let here = below node child (child_of-is_there content rises node.id name child found)
          (child_above node child name there found) in (
            child ∷ on.0,
            ap (λ (l : List Node). node ∷ l) on.1,
            grind (arith, nat_tests),
          )

  from_root : (names : List (List ℕ)) (o : Option Node) → root_of content ≡ o
      → fulls which (option_map_or (λ root. walk_from content root names) o
      (record { chain = []; rest = length names })).chain
      ≡ map stored (option_map_or (λ root. walk_from content root names) o
      (record { chain = []; rest = length names })).chain
  from_root names None found = refl
  from_root names (Some root) found =
      let on = along names root (root_of-is_there content rises root found) in
      cc (on.1, on.2, on.1)

pub stored_along_path : StoredAlongPath
stored_along_path rows which names are all =
    from_root rows.read (rows-rise rows are) which all names (root_of rows.read) refl
