-- The object at the end of a path, and the one above it.
use Rattle.std.proofs.Common.{◌≡◌, ℕ, List, [], ◌∷◌, ◌++◌, Option, Some, None, refl, sym, ap, ◌∙◌}
use Rattle.std.{proofs.{Common.arith, lemmas.Bool.Decides.nat_tests}, specs.Option.option_map}
use Rattle.std.specs.Option.{option_map_or}
use Rattle.room_rows.specs.{declared.node.Node.Node, Content.{Content, child_of, node_at}}
use Rattle.room_rows.{specs.Content.parent_of, proofs.Frames.{Rises, child_of-is_there}}
use Rattle.room_rows.proofs.Frames.{child_of-parent, root_of-is_there, root_of-parent}
use Rattle.room_machine.specs.{Site.{Site, front, parent_at, site_at}, Stored.stored_along}
use Rattle.room_machine.specs.Stored.{stored_from, stored_site}

-- an object that is there
abbrev pub Stands : Content → Node → Type 0
Stands rows node = node_at rows node.id ≡ Some node

same_target : (p q : List (List ℕ)) (x y : Node) → Some (stored_site p x) ≡ Some (stored_site q y)
    → x ≡ y
same_target p q x y same = grind (arith, nat_tests)

module _ (rows : Content) (rises : Rises rows) where
  -- along the names from an object
  end_stands : (names p q : List (List ℕ)) (from target : Node) → Stands rows from
      → site_at (stored_from rows p from names) names ≡ Some (stored_site q target)
      → Stands rows target
  end_stands [] p q from target there is = grind (arith, nat_tests, same_target)
  end_stands (name ∷ names) p q from target there is =
      on (child_of rows from.id name)
      (λ child found rest. end_stands names (p ++ name ∷ []) q child target
      (child_of-is_there rows rises from.id name child found) rest) is
    where
      on : (o : Option Node)
          → ((child : Node) → o ≡ Some child
          → site_at (stored_from rows (p ++ name ∷ []) child names) names
          ≡ Some (stored_site q target) → Stands rows target)
          → site_at (option_map_or (λ child. stored_from rows (p ++ name ∷ []) child names) o [])
          names ≡ Some (stored_site q target) → Stands rows target
      on None next is = absurd (let wrong : ⊥ = cc in wrong)
      on (Some child) next is = next child refl is

  -- the object before the last name
  pub record IsAbove (sites : List Site) (names : List (List ℕ)) (target : Node) : Type 0 where
    pub above : Node
    pub path : List (List ℕ)
    pub at : site_at sites (front names) ≡ Some (stored_site path above)
    pub parent : parent_of rows target ≡ Some above

  end_above : (name : List ℕ) (names p q : List (List ℕ)) (from target : Node) → Stands rows from
      → site_at (stored_from rows p from (name ∷ names)) (name ∷ names)
      ≡ Some (stored_site q target)
      → IsAbove (stored_from rows p from (name ∷ names)) (name ∷ names) target
  end_above name [] p q from target there is = search (child_of-parent, on)
    where
      on : (o : Option Node) → ((child : Node) → o ≡ Some child → child.parent ≡ Some from.id)
          → site_at (option_map_or (λ child. stored_from rows (p ++ name ∷ []) child []) o []) []
          ≡ Some (stored_site q target)
          → IsAbove (stored_site p from ∷ option_map_or
          (λ child. stored_from rows (p ++ name ∷ []) child []) o []) (name ∷ []) target
      on None known is = absurd (let wrong : ⊥ = cc in wrong)
      on (Some child) known is =
          let same = same_target (p ++ name ∷ []) q child target is in
          record {
            above = from;
            path = p;
            at = refl;
            parent = grind (arith, nat_tests);
          }
  end_above name (next ∷ names) p q from target there is =
      on (child_of rows from.id name)
      (λ child found rest. end_above next names (p ++ name ∷ []) q child target
      (child_of-is_there rows rises from.id name child found) rest) is
    where
      on : (o : Option Node)
          → ((child : Node) → o ≡ Some child
          → site_at (stored_from rows (p ++ name ∷ []) child (next ∷ names)) (next ∷ names)
          ≡ Some (stored_site q target)
          → IsAbove (stored_from rows (p ++ name ∷ []) child (next ∷ names)) (next ∷ names) target)
          → site_at
          (option_map_or (λ child. stored_from rows (p ++ name ∷ []) child (next ∷ names)) o [])
          (next ∷ names) ≡ Some (stored_site q target)
          → IsAbove (stored_site p from ∷ option_map_or
          (λ child. stored_from rows (p ++ name ∷ []) child (next ∷ names)) o [])
          (name ∷ next ∷ names) target
      on o known is = grind (arith, nat_tests)

  -- along a path from the root
  pub target_stands : (path q : List (List ℕ)) (target : Node)
      → site_at (stored_along rows path) path ≡ Some (stored_site q target) → Stands rows target
  target_stands path q target is = grind (arith, nat_tests, end_stands, root_of-is_there)

  pub target_above : (name : List ℕ) (names q : List (List ℕ)) (target : Node)
      → site_at (stored_along rows (name ∷ names)) (name ∷ names) ≡ Some (stored_site q target)
      → IsAbove (stored_along rows (name ∷ names)) (name ∷ names) target
  target_above name names q target is = grind (arith, nat_tests, end_above, root_of-is_there)

  pub root_alone : (q : List (List ℕ)) (target : Node)
      → site_at (stored_along rows []) [] ≡ Some (stored_site q target)
      → parent_of rows target ≡ None
  root_alone q target is = grind (arith, nat_tests, root_of-parent, same_target)

  -- the folder of the last name is what is above
  pub parent_paired : (path : List (List ℕ)) (folder : Site) (target : Node)
      → parent_at (stored_along rows path) path ≡ Some folder
      → site_at (stored_along rows path) path ≡ Some (stored_site path target)
      → parent_of rows target ≡ Some folder.node
  parent_paired [] folder target above is = absurd (let wrong : ⊥ = cc in wrong)
  parent_paired (name ∷ names) folder target above is =
      let up = target_above name names (name ∷ names) target is in
      up.parent ∙ ap (λ (o : Option Site). option_map (λ (s : Site). s.node) o) (sym up.at ∙ above)
