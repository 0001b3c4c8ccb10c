-- The way to the folder of a path's last name, and what has that name in it.
use Rattle.std.proofs.Common.{◌≡◌, ℕ, ◌<◌, ◌+◌, Bool, false, not, ◌&&◌, List, [], ◌∷◌, ◌++◌, length}
use Rattle.std.proofs.Common.{take, Option, Some, None, refl, sym, ap, ◌∙◌, append_assoc, arith}
use Rattle.std.proofs.{Common.length-append, lemmas.{List.append-nil, Bool.Decides.nat_tests}}
use Rattle.std.proofs.Math.Seq.{take-append_seam, get_or-append_seam}
use Rattle.std.specs.{Prelude.is_none, Option.{option_map, option_map_or, option_and_then}}
use Rattle.room_rows.specs.{declared.node.Node.Node, Content.{Content, child_of, root_of, is_empty}}
use Rattle.room_machine.specs.{declared.reply.Reason.TheVariants.NoSuch, Site.{Site, site_at}}
use Rattle.room_machine.specs.{Site.{parent_at, front, last_name}, Plan.{Item, Refusal, way}}
use Rattle.room_machine.specs.{Plan.where_found, Stored.{stored_site, stored_from, stored_along}}
use Rattle.room_judge.specs.Judged.{name_after, through}

-- ---- a path and its last name

-- a name and those after it are their front, followed by the last of them
pub front_and_last : (name : List ℕ) (names : List (List ℕ))
    → front (name ∷ names) ++ last_name (name ∷ names) ∷ [] ≡ name ∷ names
front_and_last name [] = refl
front_and_last name (next ∷ names) = ap (λ l. name ∷ l) (front_and_last next names)

-- a path of at least one name is its front and then its last name
pub path_parts : (path : List (List ℕ)) → 0 < length path → front path ++ last_name path ∷ [] ≡ path
path_parts [] some = absurd (let wrong : ⊥ = omega arith in wrong)
path_parts (name ∷ names) some = front_and_last name names

-- a name that is added after others is the last name
pub last_of : (names : List (List ℕ)) (name : List ℕ) → last_name (names ++ name ∷ []) ≡ name
last_of [] name = refl
last_of (first ∷ []) name = refl
last_of (first ∷ next ∷ names) name = last_of (next ∷ names) name

module _ (path : List (List ℕ)) (depth : ℕ) (deep : length path ≡ depth + 1) where
  parts : front path ++ last_name path ∷ [] ≡ path
  parts = path_parts path (omega arith)

  depth_is : depth ≡ length (front path)
  depth_is = let e : length (front path) + 1 ≡ length path =
      sym (length-append (front path) (last_name path ∷ [])) ∙ ap length parts in omega arith

  -- in a path of depth + 1 names, the first `depth` names are all but the last
  pub take_front : take depth path ≡ front path
  take_front = grind (arith, nat_tests, depth_is, parts, take-append_seam)

  -- the name that comes after `depth` others is the last name of such a path
  pub name_is_last : name_after path depth ≡ last_name path
  name_is_last = grind (arith, nat_tests, depth_is, get_or-append_seam, parts)

-- ---- what the folder of the last name has by that name

module _ (rows : Content) where
  -- what has this name below an object
  abbrev pub below_of : List ℕ → Site → Option Site
  below_of name site =
      option_map (stored_site (site.path ++ name ∷ [])) (child_of rows site.node.id name)

  -- the refusal where nothing has this name, but where it may be absent
  abbrev pub missing : Bool → List ℕ → Site → Item
  missing lack name site =
      Refusal (site.path ++ name ∷ []) NoSuch
      (is_none (child_of rows site.node.id name) && not lack)

  -- the items at the folder of the last name: through it, and then whether it has that name
  abbrev pub last_items : Bool → List ℕ → Site → List Item
  last_items lack name site = through site ++ missing lack name site ∷ []

  not_empty : (path : List (List ℕ)) (node : Node) (names : List (List ℕ))
      → is_empty (stored_from rows path node names) ≡ false
  not_empty path node [] = refl
  not_empty path node (name ∷ names) = refl

  folder_from : (names path : List (List ℕ)) (name : List ℕ) (node : Node)
      → site_at (stored_from rows path node (name ∷ names)) (front (name ∷ names))
      ≡ site_at (stored_from rows path node (front (name ∷ names))) (front (name ∷ names))
  folder_from [] path name node = refl
  folder_from (next ∷ names) path name node =
      on (child_of rows node.id name) (λ child. folder_from names (path ++ name ∷ []) next child)
    where
      on : (o : Option Node)
          → ((child : Node) → site_at (stored_from rows (path ++ name ∷ []) child (next ∷ names))
          (front (next ∷ names))
          ≡ site_at (stored_from rows (path ++ name ∷ []) child (front (next ∷ names)))
          (front (next ∷ names)))
          → site_at
          (option_map_or (λ child. stored_from rows (path ++ name ∷ []) child (next ∷ names)) o [])
          (front (next ∷ names))
          ≡ site_at
          (option_map_or (λ child. stored_from rows (path ++ name ∷ []) child
          (front (next ∷ names))) o []) (front (next ∷ names))
      on None rest = refl
      on (Some child) rest = rest child

  target_from : (names path : List (List ℕ)) (name : List ℕ) (node : Node)
      → site_at (stored_from rows path node (name ∷ names)) (name ∷ names)
      ≡ option_and_then (below_of (last_name (name ∷ names)))
      (site_at (stored_from rows path node (front (name ∷ names))) (front (name ∷ names)))
  target_from [] path name node = grind (arith, nat_tests)
  target_from (next ∷ names) path name node =
      on (child_of rows node.id name) (λ child. target_from names (path ++ name ∷ []) next child)
    where
      on : (o : Option Node)
          → ((child : Node) → site_at (stored_from rows (path ++ name ∷ []) child (next ∷ names))
          (next ∷ names) ≡ option_and_then (below_of (last_name (next ∷ names)))
          (site_at (stored_from rows (path ++ name ∷ []) child (front (next ∷ names)))
          (front (next ∷ names))))
          → site_at
          (option_map_or (λ child. stored_from rows (path ++ name ∷ []) child (next ∷ names)) o [])
          (next ∷ names)
          ≡ option_and_then (below_of (last_name (next ∷ names)))
          (site_at
          (option_map_or (λ child. stored_from rows (path ++ name ∷ []) child
          (front (next ∷ names))) o []) (front (next ∷ names)))
      on None rest = refl
      on (Some child) rest = rest child

  -- an object is found at its path
  site_path_from : (names path : List (List ℕ)) (node : Node) (site : Site)
      → site_at (stored_from rows path node names) names ≡ Some site → site.path ≡ path ++ names
  site_path_from [] path node site is = grind (arith, nat_tests, append-nil)
  site_path_from (name ∷ names) path node site is =
      on (child_of rows node.id name)
      (λ child found. site_path_from names (path ++ name ∷ []) child site found) is
      ∙ append_assoc path (name ∷ []) names
    where
      on : (o : Option Node)
          → ((child : Node) → site_at (stored_from rows (path ++ name ∷ []) child names) names
          ≡ Some site → site.path ≡ (path ++ name ∷ []) ++ names)
          → site_at (option_map_or (λ child. stored_from rows (path ++ name ∷ []) child names) o [])
          names ≡ Some site → site.path ≡ (path ++ name ∷ []) ++ names
      on None rest is = absurd (let wrong : ⊥ = cc in wrong)
      on (Some child) rest is = rest child is

  -- ---- the way

  way_from : (lack : Bool) (names path : List (List ℕ)) (name : List ℕ) (node : Node)
      → way lack (stored_from rows path node (name ∷ names)) (name ∷ names)
      ≡ way false (stored_from rows path node (front (name ∷ names))) (front (name ∷ names))
      ++ where_found (site_at (stored_from rows path node (front (name ∷ names)))
      (front (name ∷ names))) (last_items lack (last_name (name ∷ names)))
  way_from lack [] path name node = grind (arith, nat_tests)
  way_from lack (next ∷ names) path name node =
      on lack (child_of rows node.id name)
      (λ child. way_from lack names (path ++ name ∷ []) next child)
    where
      below : List (List ℕ)
      below = front (next ∷ names)

      after : Bool → Node → List Item
      after lack child =
          way false (stored_from rows (path ++ name ∷ []) child below) below
          ++ where_found (site_at (stored_from rows (path ++ name ∷ []) child below) below)
          (last_items lack (last_name (next ∷ names)))

      on : (lack : Bool) (o : Option Node)
          → ((child : Node) → way lack (stored_from rows (path ++ name ∷ []) child (next ∷ names))
          (next ∷ names) ≡ after lack child)
          → way lack (stored_site path node ∷ option_map_or
          (λ child. stored_from rows (path ++ name ∷ []) child (next ∷ names)) o [])
          (name ∷ next ∷ names)
          ≡ way false (stored_site path node ∷ option_map_or
          (λ child. stored_from rows (path ++ name ∷ []) child below) o []) (name ∷ below)
          ++ where_found
          (site_at (option_map_or (λ child. stored_from rows (path ++ name ∷ []) child below) o [])
          below) (last_items lack (last_name (next ∷ names)))
      on lack o rest = grind (arith, nat_tests, not_empty)

  -- ---- from the root

  -- the folder of the last name
  abbrev pub folder_along : List (List ℕ) → Option Site
  folder_along path = site_at (stored_along rows (front path)) (front path)

  -- the object above the end of a path is found along its names but the last
  pub folder_found : (path : List (List ℕ)) → 0 < length path
      → parent_at (stored_along rows path) path ≡ folder_along path
  folder_found [] some = absurd (let wrong : ⊥ = omega arith in wrong)
  folder_found (name ∷ names) some = on (root_of rows)
    where
      on : (o : Option Node)
          → site_at (option_map_or (λ root. stored_from rows [] root (name ∷ names)) o [])
          (front (name ∷ names))
          ≡ site_at (option_map_or (λ root. stored_from rows [] root (front (name ∷ names))) o [])
          (front (name ∷ names))
      on None = refl
      on (Some root) = folder_from names [] name root

  -- the object at the end of a path is what has the last name in the folder of that name
  pub target_found : (path : List (List ℕ)) → 0 < length path
      → site_at (stored_along rows path) path
      ≡ option_and_then (below_of (last_name path)) (folder_along path)
  target_found [] some = absurd (let wrong : ⊥ = omega arith in wrong)
  target_found (name ∷ names) some = grind (arith, nat_tests, target_from)

  -- the folder of the last name has the names before it as its path
  pub folder_path : (path : List (List ℕ)) (site : Site) → folder_along path ≡ Some site
      → site.path ≡ front path
  folder_path path site is = grind (arith, nat_tests, site_path_from)

  -- the way to the folder of the last name, and through it
  abbrev pub stem : List (List ℕ) → List Item
  stem path =
      way false (stored_along rows (front path)) (front path)
      ++ where_found (folder_along path) through

  -- the check that the last name is there
  abbrev pub last_look : Bool → List (List ℕ) → List Item
  last_look lack path =
      where_found (folder_along path) (λ site. missing lack (last_name path) site ∷ [])

  -- the way along a path goes through the folder of its last name, and then looks for that name
  pub way_along : (lack : Bool) (path : List (List ℕ)) → 0 < length path
      → way lack (stored_along rows path) path ≡ stem path ++ last_look lack path
  way_along lack [] some = absurd (let wrong : ⊥ = omega arith in wrong)
  way_along lack (name ∷ names) some = on (root_of rows)
    where
      path : List (List ℕ)
      path = name ∷ names

      more : (begin : List Item) (o : Option Site)
          → begin ++ where_found o (last_items lack (last_name path))
          ≡ (begin ++ where_found o through)
          ++ where_found o (λ site. missing lack (last_name path) site ∷ [])
      more begin None = sym (append-nil (begin ++ []))
      more begin (Some site) = search (append_assoc, path)

      along : Option Node → List Site
      along o = option_map_or (λ root. stored_from rows [] root (front path)) o []

      on : (o : Option Node)
          → way lack (option_map_or (λ root. stored_from rows [] root path) o []) path
          ≡ (way false (along o) (front path)
          ++ where_found (site_at (along o) (front path)) through)
          ++ where_found (site_at (along o) (front path))
          (λ site. missing lack (last_name path) site ∷ [])
      on None = refl
      on (Some root) = search (along, more, path, way_from)
