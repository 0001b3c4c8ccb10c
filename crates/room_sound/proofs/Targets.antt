-- The object of a plan's site is the stored one, with the inherited entries that it keeps.
use Rattle.std.proofs.Common.{◌≡◌, ℕ, List, [], ◌∷◌, ◌++◌, map, Option, Some, None, refl, sym, ap}
use Rattle.std.proofs.{Common.{◌∙◌, arith}, lemmas.Bool.Decides.nat_tests}
use Rattle.std.specs.{Prelude.length, Option.{option_map, option_map_or}}
use Rattle.room_rows.specs.{declared.node.Node.Node, Content.{Content, child_of}, Meaning.kept_node}
use Rattle.room_rows.specs.{Meaning.meaning, Walk.{walk_of, walk_from, behind}}
use Rattle.room_rows.proofs.InPlace.{KeepsPlaces, keeps_places, root_of-with_each}
use Rattle.room_rows.proofs.InPlace.{child_of-with_each}
use Rattle.room_machine.specs.Site.{Site, root_site, site_below, sites_below, sites_of, sites_along}
use Rattle.room_machine.specs.{Site.site_at, Stored.{stored_from, stored_along}}

-- ---- what stands after n names

abbrev picked : {X : Type 0} → List X → List (List ℕ) → Option X
picked [] names = None
picked (x ∷ xs) [] = Some x
picked (x ∷ xs) (name ∷ names) = picked xs names

part_at : {X : Type 0} (part : Site → X) (sites : List Site) (names : List (List ℕ))
    → option_map part (site_at sites names) ≡ picked (map part sites) names
part_at part [] names = refl
part_at part (site ∷ sites) [] = refl
part_at part (site ∷ sites) (name ∷ names) = part_at part sites names

abbrev node_of : Site → Node
node_of site = site.node

nodes_below : (above : Site) (chain : List Node) → map node_of (sites_below above chain) ≡ chain
nodes_below above [] = refl
nodes_below above (node ∷ chain) =
    ap (λ nodes. node ∷ nodes) (nodes_below (site_below above node) chain)

nodes_of : (chain : List Node) → map node_of (sites_of chain) ≡ chain
nodes_of [] = refl
nodes_of (root ∷ chain) = ap (λ nodes. root ∷ nodes) (nodes_below (root_site root) chain)

module _ (content : Content) where
  abbrev kept : Node → Node
  kept node = kept_node content node

  abbrev kept_of : Site → Node
  kept_of site = kept site.node

  same_places : KeepsPlaces content kept
  same_places =
      keeps_places content kept (λ n. record { number = refl; parent = refl; name = refl })

  -- the walk through what the rows mean finds what the walk through the rows finds
  kept_chain : (names path : List (List ℕ)) (node : Node)
      → (walk_from (meaning content) (kept node) names).chain
      ≡ map kept_of (stored_from content path node names)
  kept_chain [] path node = refl
  kept_chain (name ∷ names) path node =
      ap (λ o.
      (option_map_or (λ child. behind (kept node) (walk_from (meaning content) child names)) o
      (record { chain = kept node ∷ []; rest = length (name ∷ names) })).chain)
      (child_of-with_each content kept same_places node.id name)
      ∙ on (child_of content node.id name) (λ child. kept_chain names (path ++ name ∷ []) child)
    where
      on : (o : Option Node)
          → ((child : Node) → (walk_from (meaning content) (kept child) names).chain
          ≡ map kept_of (stored_from content (path ++ name ∷ []) child names))
          → (option_map_or (λ child. behind (kept node) (walk_from (meaning content) child names))
          (option_map kept o)
          (record { chain = kept node ∷ []; rest = length (name ∷ names) })).chain
          ≡ kept node
          ∷ map kept_of
          (option_map_or (λ child. stored_from content (path ++ name ∷ []) child names) o [])
      on None rest = refl
      on (Some child) rest = ap (λ chain. kept node ∷ chain) (rest child)

  kept_along : (path : List (List ℕ))
      → (walk_of (meaning content) path).chain ≡ map kept_of (stored_along content path)
  kept_along path = grind (arith, nat_tests, kept_chain, root_of-with_each, same_places)

  -- the object that a plan finds, from the one that the walk through the rows finds
  pub target_kept : (path : List (List ℕ)) (planned site : Site)
      → site_at (sites_along (meaning content) path) path ≡ Some planned
      → site_at (stored_along content path) path ≡ Some site → planned.node ≡ kept site.node
  target_kept path planned site at there =
      let same : Some planned.node ≡ Some (kept site.node) =
      ap (option_map node_of) (sym at)
      ∙ part_at node_of (sites_along (meaning content) path) path
      ∙ ap (λ nodes. picked nodes path)
      (nodes_of (walk_of (meaning content) path).chain ∙ kept_along path)
      ∙ sym (part_at kept_of (stored_along content path) path)
      ∙ ap (option_map kept_of) there in
      cc
