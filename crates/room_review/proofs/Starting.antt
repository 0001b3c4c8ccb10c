-- From the object that a review starts at, a walk comes to all below it.
use Rattle.std.proofs.Common.{arith, ◌≡◌, ℕ, List, [], ◌∷◌, ◌++◌, length, Option, Some, None, refl}
use Rattle.std.proofs.Common.{sym, ap, subst}
use Rattle.std.specs.{List.AllByRecursion as Each, Option.option_map_or}
use Rattle.room_rows.specs.{declared.node.Node.Node, Content.{Content, child_of, root_of}}
use Rattle.room_rows.specs.Rows.{AreRows, Rows, numbers_of}
use Rattle.room_dump.specs.Visits.{IsThere, Reached}
use Rattle.room_dump.proofs.Reached.{all_there, reached_child, reached_first}
use Rattle.room_machine.specs.{Site.{Site, site_at}, Stored.{stored_along, stored_from}}
use Rattle.room_machine.specs.Stored.{stored_site}
use Rattle.room_review.specs.Telling.{StartsAt}

some_same : (x y : Site) → Some x ≡ Some y → x ≡ y
some_same x y same = ap (λ o. option_map_or (λ z. z) o x) same

module _ (content : Content) (there : Each (IsThere content) content.nodes) (most : ℕ) where
  abbrev below : List (List ℕ) → List (List ℕ) → List ℕ → Option Node → List Site
  below path names name o =
      option_map_or (λ child. stored_from content (path ++ name ∷ []) child names) o []

  reached_from : (names path : List (List ℕ)) (node : Node) (site : Site)
      → Reached content (node ∷ []) most
      → site_at (stored_from content path node names) names ≡ Some site
      → Reached content (site.node ∷ []) most
  reached_from [] path node site r is = grind (arith, some_same, node, site, is, r)
  reached_from (name ∷ names) path node site r is =
      on (child_of content node.id name) refl is
      (λ child r' is'. reached_from names (path ++ name ∷ []) child site r' is')
    where
      on : (o : Option Node) → child_of content node.id name ≡ o
          → site_at (below path names name o) names ≡ Some site
          → ((child : Node) → Reached content (child ∷ []) most
          → site_at (stored_from content (path ++ name ∷ []) child names) names ≡ Some site
          → Reached content (site.node ∷ []) most)
          → Reached content (site.node ∷ []) most
      on None found is next = absurd (let wrong : ⊥ = cc in wrong)
      on (Some child) found is next =
          next child (reached_child content there node child name most r found) is

-- the object at a path waits alone
reached_at : (rows : Rows) → AreRows rows → (path : List (List ℕ)) (site : Site)
    → site_at (stored_along rows.read path) path ≡ Some site
    → Reached rows.read (site.node ∷ []) (length (numbers_of rows))
reached_at rows are path site is = on (root_of rows.read) refl is
  where
    on : (o : Option Node) → root_of rows.read ≡ o
        → site_at (option_map_or (λ root. stored_from rows.read [] root path) o []) path ≡ Some site
        → Reached rows.read (site.node ∷ []) (length (numbers_of rows))
    on None found is = absurd (let wrong : ⊥ = cc in wrong)
    on (Some root) found is =
        reached_from rows.read (all_there rows are) (length (numbers_of rows)) path [] root site
        (reached_first rows are root found) is

pub starts_reached : (rows : Rows) → AreRows rows → (most : ℕ) (path : List (List ℕ)) (node : Node)
    → StartsAt most path node rows → Reached rows.read (node ∷ []) most
starts_reached rows are most path node start =
    subst (λ (n : ℕ). Reached rows.read (node ∷ []) n) (sym start.most_is)
    (reached_at rows are path (stored_site path node) start.is_there)
