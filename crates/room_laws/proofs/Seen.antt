-- Objects that are seen along a path, without their numbers.
use Rattle.std.proofs.Common.{ℕ, suc, ◌≡◌, List, [], ◌∷◌, length, take, Option, Some, None, refl}
use Rattle.std.proofs.{Common.{sym, ap, ◌∙◌, map, arith}, lemmas.Option.{none-some, same_Some}}
use Rattle.std.proofs.lemmas.Bool.Decides.{nat_tests}
use Rattle.std.specs.{Option.{option_map, option_map_or}, Prelude.option_and_then}
use Rattle.room_rows.specs.{Content.{Content, child_of, root_of}, Walk.{walk_from, behind}}
use Rattle.room_rows.specs.declared.node.Node.{Node}
use Rattle.room_machine.specs.Site.{Site, sites_below, site_below, root_site, sites_along, site_at}
use Rattle.room_laws.specs.Outside.{found, found_from, unnumbered, view}

-- ---- the objects along a path, each with its lists

-- from an object with these lists on
abbrev pub sites_from : Content → Site → List (List ℕ) → List Site
sites_from content site [] = site ∷ []
sites_from content site (name ∷ names) =
    let below : Node → List Site = λ child. sites_from content (site_below site child) names in
    site ∷ option_map_or below (child_of content site.node.id name) []

-- the objects of a walk after its first
abbrev chain_tail : Content → Node → List (List ℕ) → List Node
chain_tail content node [] = []
chain_tail content node (name ∷ names) =
    let below : Node → List Node = λ child. child ∷ chain_tail content child names in
    option_map_or below (child_of content node.id name) []

walk_chain : (content : Content) (node : Node) (names : List (List ℕ))
    → (walk_from content node names).chain ≡ node ∷ chain_tail content node names
walk_chain content node [] = refl
walk_chain content node (name ∷ names) =
    on (child_of content node.id name) (λ child. walk_chain content child names)
  where
    on : (o : Option Node)
        → ((child : Node)
        → (walk_from content child names).chain ≡ child ∷ chain_tail content child names)
        → (option_map_or (λ child. behind node (walk_from content child names)) o
        (record { chain = node ∷ []; rest = length (name ∷ names) })).chain
        ≡ node ∷ option_map_or (λ child. child ∷ chain_tail content child names) o []
    on o more = grind (arith, nat_tests)

sites_tail : (content : Content) (site : Site) (names : List (List ℕ))
    → site ∷ sites_below site (chain_tail content site.node names) ≡ sites_from content site names
sites_tail content site [] = refl
sites_tail content site (name ∷ names) =
    ap (λ (l : List Site). site ∷ l)
    (on (child_of content site.node.id name)
    (λ child. sites_tail content (site_below site child) names))
  where
    on : (o : Option Node)
        → ((child : Node) → site_below site child
        ∷ sites_below (site_below site child) (chain_tail content child names)
        ≡ sites_from content (site_below site child) names)
        → sites_below site (option_map_or (λ child. child ∷ chain_tail content child names) o [])
        ≡ option_map_or (λ child. sites_from content (site_below site child) names) o []
    on o more = grind (arith, nat_tests)

-- the objects that a walk along the path finds, by recursion on the path
pub along_from : (content : Content) (path : List (List ℕ)) → sites_along content path
    ≡ option_map_or (λ root. sites_from content (root_site root) path) (root_of content) []
along_from content path = grind (arith, nat_tests, sites_tail, walk_chain)

-- the object at the end is the one that the path leads to
site_found : (content : Content) (site : Site) (names : List (List ℕ))
    → option_map (λ (s : Site). s.node) (site_at (sites_from content site names) names)
    ≡ found_from content site.node names
site_found content site [] = refl
site_found content site (name ∷ names) =
    on (child_of content site.node.id name)
    (λ child. site_found content (site_below site child) names)
  where
    on : (o : Option Node)
        → ((child : Node) → option_map (λ (s : Site). s.node)
        (site_at (sites_from content (site_below site child) names) names)
        ≡ found_from content child names)
        → option_map (λ (s : Site). s.node)
        (site_at (option_map_or (λ child. sites_from content (site_below site child) names) o [])
        names) ≡ option_and_then (λ child. found_from content child names) o
    on o more = grind (arith, nat_tests)

pub found_at : (content : Content) (path : List (List ℕ))
    → option_map (λ (s : Site). s.node) (site_at (sites_along content path) path)
    ≡ found content path
found_at content path = grind (arith, nat_tests, along_from, site_found)

-- ---- sites without numbers

abbrev pub blank : Site → Site
blank site = record site { node = unnumbered site.node }

-- the same up to numbers
abbrev pub IsLike : Site → Site → Type 0
IsLike s t = blank s ≡ blank t

below_blank : (site : Site) (node : Node)
    → blank (site_below site node) ≡ site_below (blank site) (unnumbered node)
below_blank site node = refl

like_below : (s t : Site) (c d : Node) → IsLike s t → unnumbered c ≡ unnumbered d
    → IsLike (site_below s c) (site_below t d)
like_below s t c d same nodes = grind (arith, nat_tests, below_blank)

root_like : (c d : Node) → unnumbered c ≡ unnumbered d → IsLike (root_site c) (root_site d)
root_like c d nodes = ap root_site nodes

-- Objects along a path are the same up to what is left out of them, g of a site and f of its
-- object, where the root is, and where each below another one is.
module _ (f : Node → Node) (g : Site → Site)
    (begins : (c d : Node) → f c ≡ f d → g (root_site c) ≡ g (root_site d))
    (goes_on : (s t : Site) (c d : Node) → g s ≡ g t → f c ≡ f d
    → g (site_below s c) ≡ g (site_below t d)) (a b : Content) where
  -- what the names lead to from an object
  abbrev seen_from : Content → Node → List (List ℕ) → Option Node
  seen_from content node names = option_map f (found_from content node names)

  abbrev SeenAlong : Node → Node → List (List ℕ) → Type 0
  SeenAlong n m names = (i : ℕ) → seen_from a n (take i names) ≡ seen_from b m (take i names)

  like_from : (s t : Site) (names : List (List ℕ)) → g s ≡ g t → SeenAlong s.node t.node names
      → map g (sites_from a s names) ≡ map g (sites_from b t names)
  like_from s t [] same seen = ap (λ (x : Site). x ∷ []) same
  like_from s t (name ∷ names) same seen =
      ap (λ (x : Site). x ∷ map g (option_map_or
      (λ child. sites_from a (site_below s child) names) (child_of a s.node.id name) [])) same
      ∙ ap (λ (l : List Site). g t ∷ l)
      (on (child_of a s.node.id name) (child_of b t.node.id name) (λ i. seen (suc i))
      (λ c d nodes more. like_from (site_below s c) (site_below t d) names
      (goes_on s t c d same nodes) more))
    where
      on : (o p : Option Node)
          → ((i : ℕ)
          → option_map f (option_and_then (λ c. found_from a c (take i names)) o)
          ≡ option_map f (option_and_then (λ d. found_from b d (take i names)) p))
          → ((c d : Node) → f c ≡ f d → SeenAlong c d names
          → map g (sites_from a (site_below s c) names)
          ≡ map g (sites_from b (site_below t d) names))
          → map g (option_map_or (λ child. sites_from a (site_below s child) names) o [])
          ≡ map g (option_map_or (λ child. sites_from b (site_below t child) names) p [])
      on None None seen more = refl
      on None (Some d) seen more = absurd (none-some (f d) (seen 0))
      on (Some c) None seen more = absurd (none-some (f c) (sym (seen 0)))
      on (Some c) (Some d) seen more = more c d (same_Some (f c) (f d) (seen 0)) seen

  -- where the same is seen at each part of a path, the same objects are along it
  pub like_along : (path : List (List ℕ))
      → ((i : ℕ) → option_map f (found a (take i path)) ≡ option_map f (found b (take i path)))
      → map g (sites_along a path) ≡ map g (sites_along b path)
  like_along path seen = search (along_from, on)
    where
      on : (o p : Option Node)
          → ((i : ℕ)
          → option_map f (option_and_then (λ c. found_from a c (take i path)) o)
          ≡ option_map f (option_and_then (λ d. found_from b d (take i path)) p))
          → map g (option_map_or (λ root. sites_from a (root_site root) path) o [])
          ≡ map g (option_map_or (λ root. sites_from b (root_site root) path) p [])
      on None None seen = refl
      on None (Some d) seen = absurd (none-some (f d) (seen 0))
      on (Some c) None seen = absurd (none-some (f c) (sym (seen 0)))
      on (Some c) (Some d) seen =
          like_from (root_site c) (root_site d) path
          (begins c d (same_Some (f c) (f d) (seen 0))) seen

pub same_along : (a b : Content) (path : List (List ℕ))
    → ((i : ℕ) → option_map unnumbered (found a (take i path))
    ≡ option_map unnumbered (found b (take i path)))
    → map blank (sites_along a path) ≡ map blank (sites_along b path)
same_along a b path seen = like_along unnumbered blank root_like like_below a b path seen

-- ---- from views

pub seen_of_view : (a b : Content) (path : List (List ℕ)) → view a path ≡ view b path
    → option_map unnumbered (found a path) ≡ option_map unnumbered (found b path)
seen_of_view a b path same = grind (arith, nat_tests)

pub map_at : (g : Site → Site) (sites : List Site) (names : List (List ℕ))
    → site_at (map g sites) names ≡ option_map g (site_at sites names)
map_at g [] names = refl
map_at g (site ∷ sites) [] = refl
map_at g (site ∷ sites) (name ∷ names) = map_at g sites names

pub like_at : (g : Site → Site) (s t : List Site) (names : List (List ℕ)) → map g s ≡ map g t
    → option_map g (site_at s names) ≡ option_map g (site_at t names)
like_at g s t names same = cc (map_at g s names, same, map_at g t names)

-- both are there and this holds of them, or neither is
abbrev pub Both : (Site → Site → Type 0) → Option Site → Option Site → Type 0
Both R None None = Unit {0}
Both R None (Some t) = ⊥
Both R (Some s) None = ⊥
Both R (Some s) (Some t) = R s t

pub both_like : (o p : Option Site) → option_map blank o ≡ option_map blank p → Both IsLike o p
both_like o p same = grind (arith, nat_tests)
