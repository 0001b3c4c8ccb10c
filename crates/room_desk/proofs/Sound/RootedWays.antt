-- What a walk finds is rooted, whatever else the rows say.
use Rattle.std.proofs.Common.{◌≡◌, ℕ, suc, true, List, [], ◌∷◌, ◌++◌, length, Option, Some, None}
use Rattle.std.proofs.{Common.{refl, sym, ap, ◌∙◌, arith}, lemmas.Bool.Decides.nat_tests}
use Rattle.std.specs.{Prelude.{◌-◌, option_and_then, slice_get}, Option.option_map_or}
use Rattle.room_rows.specs.{declared.node.{Node.Node, Walk.Walk}, Content.{Content, child_of}}
use Rattle.room_rows.specs.{Content.{node_at, parent_of, reaches_root, root_of}, Rows.Rows}
use Rattle.room_rows.specs.Walk.{behind, walk_from, walk_of}
use Rattle.room_rows.proofs.Frames.{Rises, child_of-is_there, child_of-parent, root_of-is_there}
use Rattle.room_rows.proofs.Frames.{root_of-parent}
use Rattle.room_machine.specs.{Site.{Site, site_at}, Stored.{stored_along, stored_from}}
use Rattle.room_machine.specs.Stored.{stored_site}
use Rattle.room_desk.specs.Carrying.{IsRooted}
use Rattle.room_sound.proofs.Ends.{same_front, same_last}

-- the last of the objects, or else the one before them
pub last_or : Option Node → List Node → Option Node
last_or before [] = before
last_or before (x ∷ xs) = last_or (Some x) xs

last_read : (before : Option Node) (x : Node) (xs : List Node)
    → slice_get (x ∷ xs) (length xs) ≡ last_or before (x ∷ xs)
unfolding last_or
last_read before x [] = refl
last_read before x (y ∷ ys) = last_read (Some x) y ys

module _ (rows : Content) (rises : Rises rows) where
  -- it stands there, and n steps lead from it to the root
  pub record IsUp (node : Node) : Type 0 where
    pub there : node_at rows node.id ≡ Some node
    pub steps : ℕ
    pub reaches : reaches_root steps rows node.parent ≡ true

  up_root : (root : Node) → root_of rows ≡ Some root → IsUp root
  up_root root is = grind (arith, nat_tests, root_of-is_there, root_of-parent)

  up_child : (node child : Node) (name : List ℕ) → IsUp node
      → child_of rows node.id name ≡ Some child → IsUp child
  up_child node child name up is = record {
    there = child_of-is_there rows rises node.id name child is;
    steps = suc up.steps;
    reaches = grind (arith, nat_tests, child_of-parent);
  }

  up_from : (names path : List (List ℕ)) (node : Node) (site : Site) → IsUp node
      → site_at (stored_from rows path node names) names ≡ Some site → IsUp site.node
  up_from [] path node site up is = grind (arith, nat_tests)
  up_from (name ∷ names) path node site up is =
      on (child_of rows node.id name)
      (λ child known. up_from names (path ++ name ∷ []) child site
      (up_child node child name up known)) is
    where
      on : (o : Option Node)
          → ((child : Node) → o ≡ Some child
          → site_at (stored_from rows (path ++ name ∷ []) child names) names ≡ Some site
          → IsUp site.node)
          → site_at (option_map_or (λ child. stored_from rows (path ++ name ∷ []) child names) o [])
          names ≡ Some site → IsUp site.node
      on None known is = absurd (let wrong : ⊥ = cc in wrong)
      on (Some child) known is = known child refl is

  up_along : (path : List (List ℕ)) (site : Site)
      → site_at (stored_along rows path) path ≡ Some site → IsUp site.node
  up_along path site is =
      on (root_of rows) (λ root known. up_from path [] root site (up_root root known)) is
    where
      on : (o : Option Node)
          → ((root : Node) → o ≡ Some root
          → site_at (stored_from rows [] root path) path ≡ Some site → IsUp site.node)
          → site_at (option_map_or (λ root. stored_from rows [] root path) o []) path ≡ Some site
          → IsUp site.node
      on None known is = absurd (let wrong : ⊥ = cc in wrong)
      on (Some root) known is = known root refl is

  -- the end of a walk
  pub record IsUpEnd (chain : List Node) : Type 0 where
    pub front : List Node
    pub last : Node
    pub is : chain ≡ front ++ last ∷ []
    pub up : IsUp last

  end_from : (names : List (List ℕ)) (node : Node) → IsUp node
      → IsUpEnd (walk_from rows node names).chain
  end_from [] node up = record { front = []; last = node; is = refl; up = up }
  end_from (name ∷ names) node up =
      on (child_of rows node.id name)
      (λ child known. end_from names child (up_child node child name up known))
    where
      on : (o : Option Node)
          → ((child : Node) → o ≡ Some child → IsUpEnd (walk_from rows child names).chain)
          → IsUpEnd (option_map_or (λ child. behind node (walk_from rows child names)) o
          (record { chain = node ∷ []; rest = length (name ∷ names) })).chain
      on None known = record { front = []; last = node; is = refl; up = up }
      on (Some child) known = let end = known child refl in
          record {
            front = node ∷ end.front;
            last = end.last;
            is = ap (λ (l : List Node). node ∷ l) end.is;
            up = end.up;
          }

  last_up : (path : List (List ℕ)) (front : List Node) (last : Node)
      → (walk_of rows path).chain ≡ front ++ last ∷ [] → IsUp last
  last_up path front last is =
      on (root_of rows) (λ root known. end_from path root (up_root root known)) is
    where
      none_ends : (l : List Node) → [] ≡ l ++ last ∷ [] → ⊥
      none_ends [] is = let wrong : ⊥ = cc in wrong
      none_ends (x ∷ xs) is = let wrong : ⊥ = cc in wrong

      on : (o : Option Node)
          → ((root : Node) → o ≡ Some root → IsUpEnd (walk_from rows root path).chain)
          → (option_map_or (λ root. walk_from rows root path) o
          (record { chain = []; rest = length path })).chain ≡ front ++ last ∷ [] → IsUp last
      on None known is = absurd (none_ends front is)
      on (Some root) known is = grind (arith, nat_tests, same_last)

  -- ---- what is above the end of a walk

  pub record IsEndBelow (before : Option Node) (chain : List Node) : Type 0 where
    pub front : List Node
    pub last : Node
    pub is : chain ≡ front ++ last ∷ []
    pub parent : parent_of rows last ≡ last_or before front

  end_below : (names : List (List ℕ)) (node : Node) (before : Option Node)
      → node_at rows node.id ≡ Some node → parent_of rows node ≡ before
      → IsEndBelow before (walk_from rows node names).chain
  unfolding last_or
  end_below [] node before there up = record { front = []; last = node; is = refl; parent = up }
  end_below (name ∷ names) node before there up =
      on (child_of rows node.id name)
      (λ child known. end_below names child (Some node)
      (child_of-is_there rows rises node.id name child known)
      (ap (option_and_then (node_at rows)) (child_of-parent rows node.id name child known) ∙ there))
    where
      on : (o : Option Node)
          → ((child : Node) → o ≡ Some child
          → IsEndBelow (Some node) (walk_from rows child names).chain)
          → IsEndBelow before (option_map_or (λ child. behind node (walk_from rows child names)) o
          (record { chain = node ∷ []; rest = length (name ∷ names) })).chain
      on None known = record { front = []; last = node; is = refl; parent = up }
      on (Some child) known = let end = known child refl in
          record {
            front = node ∷ end.front;
            last = end.last;
            is = ap (λ (l : List Node). node ∷ l) end.is;
            parent = end.parent;
          }

  above_last : (path : List (List ℕ)) (front : List Node) (last : Node)
      → (walk_of rows path).chain ≡ front ++ last ∷ [] → parent_of rows last ≡ last_or None front
  above_last path front last is =
      on (root_of rows) (λ root known. end_below path root None
      (root_of-is_there rows rises root known)
      (ap (option_and_then (node_at rows)) (root_of-parent rows root known))) is
    where
      none_ends : (l : List Node) → [] ≡ l ++ last ∷ [] → ⊥
      none_ends [] is = let wrong : ⊥ = cc in wrong
      none_ends (x ∷ xs) is = let wrong : ⊥ = cc in wrong

      on : (o : Option Node)
          → ((root : Node) → o ≡ Some root → IsEndBelow None (walk_from rows root path).chain)
          → (option_map_or (λ root. walk_from rows root path) o
          (record { chain = []; rest = length path })).chain ≡ front ++ last ∷ []
          → parent_of rows last ≡ last_or None front
      on None known is = absurd (none_ends front is)
      on (Some root) known is = grind (arith, nat_tests, last_or, same_front, same_last)

-- ---- in terms of the calls

-- what is above the last object of a walk
pub above_end : (rows : Rows) → Rises rows.read
    → (path : List (List ℕ)) (walk : Walk) (front : List Node) (last : Node) (above : Option Node)
    → walk ≡ walk_of rows.read path → walk.chain ≡ front ++ last ∷ []
    → above ≡ slice_get front (length front - 1) → parent_of rows.read last ≡ above
unfolding last_or
above_end rows rises path walk front last above is chain read =
    above_last rows.read rises path front last (sym (ap (λ (w : Walk). w.chain) is) ∙ chain)
    ∙ sym (on front) ∙ sym read
  where
    on : (l : List Node) → slice_get l (length l - 1) ≡ last_or None l
    on [] = refl
    on (x ∷ xs) = let before : suc (length xs) - 1 ≡ length xs = omega arith in
        ap (slice_get (x ∷ xs)) before ∙ last_read None x xs

rooted_up : (rows : Rows) → (rises : Rises rows.read) → (node : Node) → IsUp rows.read rises node
    → IsRooted node.id rows
rooted_up rows rises node up = grind (arith, nat_tests)

-- the object at the path
pub rooted_along : (rows : Rows) → Rises rows.read → (path front : List (List ℕ)) (node : Node)
    → site_at (stored_along rows.read path) path ≡ Some (stored_site front node)
    → IsRooted node.id rows
rooted_along rows rises path front node is =
    rooted_up rows rises node (up_along rows.read rises path (stored_site front node) is)

-- the last object of a walk
pub rooted_last : (rows : Rows) → Rises rows.read
    → (path : List (List ℕ)) (walk : Walk) (front : List Node) (last : Node)
    → walk ≡ walk_of rows.read path → walk.chain ≡ front ++ last ∷ [] → IsRooted last.id rows
rooted_last rows rises path walk front last is chain =
    rooted_up rows rises last
    (last_up rows.read rises path front last (sym (ap (λ (w : Walk). w.chain) is) ∙ chain))

-- and it stands so in the rows
pub stands_last : (rows : Rows) → Rises rows.read
    → (path : List (List ℕ)) (walk : Walk) (front : List Node) (last : Node)
    → walk ≡ walk_of rows.read path → walk.chain ≡ front ++ last ∷ []
    → node_at rows.read last.id ≡ Some last
stands_last rows rises path walk front last is chain =
    (last_up rows.read rises path front last (sym (ap (λ (w : Walk). w.chain) is) ∙ chain)).there
