-- In sound rows, each object of a table stands at the end of its path.
use Rattle.std.proofs.Common.{rules, ◌≡◌, ℕ, zero, suc, List, [], ◌∷◌, ◌++◌, filter, length, take}
use Rattle.std.proofs.Common.{Option, Some, None, ap, ◌∙◌, append_assoc, arith}
use Rattle.std.{proofs.lemmas.{List.append-nil, Bool.Decides.nat_tests}, specs.List.flat_map}
use Rattle.std.specs.{List.AllByRecursion as Each, Option.option_map_or}
use Rattle.room_rows.specs.{declared.node.Node.Node, Content.{Content, child_of, children_of}}
use Rattle.room_rows.{specs.Content.{has_parent, root_of}, proofs.Lookups.each-sorted}
use Rattle.room_machine.specs.{Site.{Site, site_at}, Stored.{stored_along, stored_from}}
use Rattle.room_machine.specs.Stored.{stored_site}
use Rattle.room_dump.specs.Dump.{tree_of}
use Rattle.room_entry.proofs.Facts.Members.{each_append, each_weaker}
use Rattle.room_review.specs.Table.{Place, place_below, site_of}

pub some_same : {A : Type 0} (x y : A) → Some x ≡ Some y → x ≡ y
some_same x y same = ap (λ o. option_map_or (λ z. z) o x) same

-- ---- the path of a site

module _ (content : Content) where
  abbrev later : List (List ℕ) → List (List ℕ) → List ℕ → Option Node → List Site
  later path names next o =
      option_map_or (λ c. stored_from content (path ++ next ∷ []) c names) o []

  -- a site that is found has the path that leads to it
  ends_at : (names path : List (List ℕ)) (start : Node) (site : Site)
      → site_at (stored_from content path start names) names ≡ Some site
      → site ≡ stored_site (path ++ names) site.node
  ends_at [] path start site at = search (rules, start, site, some_same, append-nil)
  ends_at (next ∷ names) path start site at =
      on (child_of content start.id next) at
      (λ c at'. ends_at names (path ++ next ∷ []) c site at')
    where
      on : (o : Option Node) → site_at (later path names next o) names ≡ Some site
          → ((c : Node) → site_at (stored_from content (path ++ next ∷ []) c names) names ≡ Some site
          → site ≡ stored_site ((path ++ next ∷ []) ++ names) site.node)
          → site ≡ stored_site (path ++ next ∷ names) site.node
      on None at rest = absurd (let wrong : ⊥ = cc in wrong)
      on (Some c) at rest =
          rest c at ∙ ap (λ p. stored_site p site.node) (append_assoc path (next ∷ []) names)

  pub ends_along : (path : List (List ℕ)) (site : Site)
      → site_at (stored_along content path) path ≡ Some site → site ≡ stored_site path site.node
  ends_along path site at = grind (arith, nat_tests, ends_at)

-- ---- one name further

module _ (content : Content) (name : List ℕ) (child : Node) where
  abbrev below : List (List ℕ) → List (List ℕ) → List ℕ → Option Node → List Site
  below path names next o =
      option_map_or (λ c. stored_from content (path ++ next ∷ []) c names) o []

  -- the child is found behind the object, and nothing else changes on the way
  abbrev Deeper : List (List ℕ) → List (List ℕ) → List Site → List Site → Site → Type 0
  Deeper path names sites deeper site =
      (site_at deeper (names ++ name ∷ []) ≡ Some (stored_site (path ++ (names ++ name ∷ [])) child))
      × (take (length (names ++ name ∷ [])) deeper ≡ take (length names) sites ++ site ∷ [])

  deeper : (names path : List (List ℕ)) (start : Node) (site : Site)
      → site_at (stored_from content path start names) names ≡ Some site
      → child_of content site.node.id name ≡ Some child
      → Deeper path names (stored_from content path start names)
      (stored_from content path start (names ++ name ∷ [])) site
  deeper [] path start site at is = search (rules, start, site, some_same, start.id, is)
  deeper (next ∷ names) path start site at is =
      on (child_of content start.id next) at
      (λ c at'. deeper names (path ++ next ∷ []) c site at' is)
    where
      on : (o : Option Node) → site_at (below path names next o) names ≡ Some site
          → ((c : Node) → site_at (stored_from content (path ++ next ∷ []) c names) names ≡ Some site
          → Deeper (path ++ next ∷ []) names (stored_from content (path ++ next ∷ []) c names)
          (stored_from content (path ++ next ∷ []) c (names ++ name ∷ [])) site)
          → Deeper path (next ∷ names) (stored_site path start ∷ below path names next o)
          (stored_site path start ∷ below path (names ++ name ∷ []) next o) site
      on None at rest = absurd (let wrong : ⊥ = cc in wrong)
      on (Some c) at rest = search (rules, append_assoc, start)

  deeper_along : (path : List (List ℕ)) (site : Site)
      → site_at (stored_along content path) path ≡ Some site
      → child_of content site.node.id name ≡ Some child
      → Deeper [] path (stored_along content path) (stored_along content (path ++ name ∷ [])) site
  deeper_along path site at is = on (root_of content) at
    where
      on : (o : Option Node)
          → site_at (option_map_or (λ root. stored_from content [] root path) o []) path ≡ Some site
          → Deeper [] path (option_map_or (λ root. stored_from content [] root path) o [])
          (option_map_or (λ root. stored_from content [] root (path ++ name ∷ [])) o []) site
      on None at = absurd (let wrong : ⊥ = cc in wrong)
      on (Some root) at = deeper path [] root site at is

-- ---- the objects of a table

-- the object stands at the end of its path, and the place says what is before it
pub record Stands (content : Content) (place : Place) (node : Node) : Type 0 where
  pub at : site_at (stored_along content place.path) place.path ≡ Some (site_of place node)
  pub way : take (length place.path) (stored_along content place.path) ≡ place.above

-- and so does each of its children that is found by its name
stands_below : (content : Content) (place : Place) (node child : Node)
    → Stands content place node → child_of content node.id child.name ≡ Some child
    → Stands content (place_below place node child) child
stands_below content place node child stands is =
    let more = deeper_along content child.name child place.path (site_of place node) stands.at is in
    record {
      at = more.0;
      way = more.1 ∙ ap (λ (l : List Site). l ++ site_of place node ∷ []) stands.way;
    }

pub each_flat : {A B : Type 0} (P : B → Type 0) (f : A → List B) (xs : List A)
    → Each (λ x. Each P (f x)) xs → Each P (flat_map f xs)
each_flat P f [] all = tt
each_flat P f (x ∷ xs) all =
    each_append P (f x) (flat_map f xs) all.0 (each_flat P f xs all.1)

-- the child of an object is found by its name
abbrev pub IsNamed : Content → ℕ → Node → Type 0
IsNamed content id child = child_of content id child.name ≡ Some child

pub each_stands : (content : Content)
    → ((id : ℕ) → Each (IsNamed content id) (filter (has_parent id) content.nodes))
    → (depth : ℕ) (place : Place) (node : Node) → Stands content place node
    → Each (λ (it : Place × Node). Stands content it.0 it.1)
    (tree_of place_below (λ p n. (p, n) ∷ []) depth content place node)
each_stands content named zero place node stands = tt
each_stands content named (suc depth) place node stands = (
  stands,
  each_flat (λ (it : Place × Node). Stands content it.0 it.1)
      (λ child. tree_of place_below (λ p n. (p, n) ∷ []) depth content (place_below place node child)
      child) (children_of content node.id)
      (each-sorted (Below depth) (filter (has_parent node.id) content.nodes)
      (each_weaker (IsNamed content node.id) (Below depth)
      (λ child is. each_stands content named depth (place_below place node child) child
      (stands_below content place node child stands is))
      (filter (has_parent node.id) content.nodes) (named node.id))),
)
  where
    Below : ℕ → Node → Type 0
    Below d child =
        Each (λ (it : Place × Node). Stands content it.0 it.1)
        (tree_of place_below (λ p n. (p, n) ∷ []) d content (place_below place node child) child)
