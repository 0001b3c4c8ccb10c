-- What the rows of a tree say at a path below its object.
use Rattle.std.proofs.Common.{rules, ◌≡◌, ℕ, zero, suc, ◌||◌, Bool, true, false, cond, not, List}
use Rattle.std.proofs.Common.{[], ◌∷◌, ◌++◌, filter, Option, Some, None, refl, sym, ap, subst, ◌∙◌}
use Rattle.std.proofs.{Common.{append_assoc, arith}, lemmas.Bool.{and_parts, or_from}}
use Rattle.std.proofs.lemmas.{Bool.Decides.nat_tests, List.{append-nil, Folds.list_any-append}}
use Rattle.std.specs.{List.{find, flat_map, list_any, AllByRecursion as Each}, Option.option_map_or}
use Rattle.std.specs.Option.{option_or}
use Rattle.room_entry.{specs.Pieces.same_text, proofs.Facts.Members.{any_filter, each_append}}
use Rattle.room_entry.proofs.{Facts.Members.{each_unfiltered, each_weaker}, Texts.same_text-sym}
use Rattle.room_entry.proofs.Texts.{same_text-true}
use Rattle.room_rows.specs.{declared.node.Node.Node, Content.{Content, child_of, children_of}}
use Rattle.room_rows.specs.{Content.{has_parent, put_by_name, sorted_by_name}, Paths.is_object_name}
use Rattle.room_rows.{specs.Paths.path_text, proofs.{Frames.child_of-name, Lookups.each-sorted}}
use Rattle.room_inherit.proofs.Children.{any_sorted}
use Rattle.room_dump.{specs.{Dump.tree_of, Visits.{IsThere, Reached}}, proofs.Counting.each_always}
use Rattle.room_dump.proofs.{Counting.each_found, Reached.{goes_down, reached_child}}
use Rattle.room_machine.specs.{Site.{Site, site_at}, Stored.stored_from}
use Rattle.room_review.specs.{declared.parties.Party.Party, LookedUp.{is_row_of, nearest, said_in}}
use Rattle.room_review.specs.{Standing.{granted, repeats, same_answer, same_grant}, Table.Place}
use Rattle.room_review.{specs.Table.{place_below, object_rows, site_of}, proofs.Ending.before_after}
use Rattle.room_review.proofs.{Ending.last_after, Fronts.{goes_apart, goes_further}}
use Rattle.room_review.proofs.Lookups.{any_flat, has_none, or_assoc, or_none, printed, said_append}
use Rattle.room_review.proofs.Lookups.{said_elsewhere, said_here, said_none, said_those}
use Rattle.room_review.proofs.{Lookups.same_nearest, Visited.{IsNamed, each_flat, some_same}}

-- ---- members of lists

put_parts : (P : Node → Type 0) (x : Node) (xs : List Node) → Each P (put_by_name x xs)
    → P x × Each P xs
put_parts P x [] all = (all.0, tt)
put_parts P x (y ∷ ys) all = grind (arith, nat_tests, put_parts P x ys)

-- what holds of each of the sorted objects
pub unsorted : (P : Node → Type 0) (xs : List Node) → Each P (sorted_by_name xs) → Each P xs
unsorted P [] all = tt
unsorted P (x ∷ xs) all =
    let parts = put_parts P x (sorted_by_name xs) all in
    (parts.0, unsorted P xs parts.1)

-- what holds of each member of several lists
each_unflat : {A B : Type 0} (P : B → Type 0) (f : A → List B) (xs : List A)
    → Each P (flat_map f xs) → Each (λ x. Each P (f x)) xs
each_unflat P f [] all = tt
each_unflat {A} {B} P f (x ∷ xs) all =
    let parts = split (f x) all in
    (parts.0, each_unflat P f xs parts.1)
  where
    split : (front : List B) → Each P (front ++ flat_map f xs)
        → Each P front × Each P (flat_map f xs)
    split [] all = (tt, all)
    split (y ∷ ys) all = let parts = split ys all.1 in ((all.0, parts.0), parts.1)

-- what is found passes
found_among : (p : Node → Bool) (xs : List Node) (x : Node) → find p xs ≡ Some x
    → (p x ≡ true) × (list_any p xs ≡ true)
found_among p [] x found = absurd (let wrong : ⊥ = cc in wrong)
found_among p (y ∷ ys) x found = grind (arith, nat_tests, some_same, found_among p ys x)

-- ---- a row that is left out

same_answers : (a b : Bool) → same_answer a b ≡ true → a ≡ b
same_answers true true is = refl
same_answers true false is = sym is
same_answers false true is = is
same_answers false false is = refl

-- grants that are the same
same_grants : (a b : List ℕ × Bool) → same_grant a b ≡ true → a ≡ b
same_grants a b is = search (rules, and_parts, a.0, b.0, a.1, b.1, is, same_text-true, same_answers)

module _ (content : Content) (there : Each (IsThere content) content.nodes) (most : ℕ) (all : Bool)
    (parties : List Party) where
  -- what holds of each child holds of the one that is found by its name
  of_child : (P : Node → Type 0) (id : ℕ) (name : List ℕ) (child : Node)
      → Each P (children_of content id) → child_of content id name ≡ Some child → P child
  of_child P id name child each found =
      grind (arith, nat_tests, each_found, each_unfiltered, found_among, unsorted)

  named_among : (id : ℕ) (name : List ℕ) (child : Node) → child_of content id name ≡ Some child
      → list_any (λ n. same_text n.name name) (children_of content id) ≡ true
  named_among id name child found = grind (arith, nat_tests, any_filter, any_sorted, found_among)

  -- a child is found by its name, which is an object name
  abbrev pub IsKid : ℕ → Node → Type 0
  IsKid id child = IsNamed content id child × (is_object_name child.name ≡ true)

  abbrev pub rows_in : ℕ → Place → Node → List (List (List ℕ))
  rows_in depth place node = tree_of place_below (object_rows all parties) depth content place node

  -- the rows of all below an object
  abbrev pub rows_under : Place → Node → List (List (List ℕ))
  rows_under place node =
      flat_map (λ child. rows_in most (place_below place node child) child)
      (children_of content node.id)

  -- the objects of a tree, each with where it stands
  abbrev pub told : Place → Node → List (Place × Node)
  told place node = tree_of place_below (λ p n. (p, n) ∷ []) most content place node

  -- ---- paths that don't go on from the object's

  elsewhere : (depth : ℕ) (place : Place) (node : Node) (other user : List ℕ)
      → ((more : List (List ℕ)) → same_text (path_text (place.path ++ more)) other ≡ false)
      → said_in (rows_in depth place node) other user ≡ None
  elsewhere zero place node other user apart = refl
  elsewhere (suc depth) place node other user apart =
      let below = λ (child : Node). rows_in depth (place_below place node child) child in
      let own = said_elsewhere place.above (site_of place node) all parties other user
      (subst (λ (p : List (List ℕ)). same_text (path_text p) other ≡ false)
      (append-nil place.path) (apart [])) in
      let rest = said_none other user below (children_of content node.id)
      (each_always (λ child. said_in (below child) other user ≡ None)
      (λ child. elsewhere depth (place_below place node child) child other user
      (search (rules, append_assoc, place.path, apart)))
      (children_of content node.id)) in
      search (rules, said_append, place, node, below, node.id, own, rest)

  -- a name that labels none of the parties has no row
  pub no_rows : (depth : ℕ) (place : Place) (node : Node) (name : List ℕ)
      → list_any (λ party. same_text party.label name) parties ≡ false
      → list_any (is_row_of name) (rows_in depth place node) ≡ false
  no_rows zero place node name none = refl
  no_rows (suc depth) place node name none =
      let below = λ (child : Node). rows_in depth (place_below place node child) child in
      list_any-append (is_row_of name) (object_rows all parties place node)
      (flat_map below (children_of content node.id))
      ∙ or_from (list_any (is_row_of name) (object_rows all parties place node))
      (list_any (is_row_of name) (flat_map below (children_of content node.id)))
      (has_none place.above (site_of place node) all parties name none)
      (any_flat (is_row_of name) below (children_of content node.id)
      (each_always (λ child. list_any (is_row_of name) (below child) ≡ false)
      (λ child. no_rows depth (place_below place node child) child name none)
      (children_of content node.id)))

  -- what holds of the rows of each object holds of all rows
  pub each_row : (Q : Place × Node → Type 0) (S : List (List ℕ) → Type 0)
      → ((it : Place × Node) → Q it → Each S (object_rows all parties it.0 it.1))
      → (depth : ℕ) (place : Place) (node : Node)
      → Each Q (tree_of place_below (λ p n. (p, n) ∷ []) depth content place node)
      → Each S (rows_in depth place node)
  each_row Q S each zero place node objects = tt
  each_row Q S each (suc depth) place node objects =
      let below = λ (child : Node). rows_in depth (place_below place node child) child in
      let told_below = λ (child : Node).
      tree_of place_below (λ p n. (p, n) ∷ []) depth content (place_below place node child) child in
      each_append S (object_rows all parties place node)
      (flat_map below (children_of content node.id))
      (each (place, node) objects.0)
      (each_flat S below (children_of content node.id)
      (each_weaker (λ child. Each Q (told_below child)) (λ child. Each S (below child))
      (λ child q. each_row Q S each depth (place_below place node child) child q)
      (children_of content node.id)
      (each_unflat Q told_below (children_of content node.id) objects.1)))

  module _ (kids : (id : ℕ) → Each (IsKid id) (filter (has_parent id) content.nodes)) where
    kids_sorted : (id : ℕ) → Each (IsKid id) (children_of content id)
    kids_sorted id = each-sorted (IsKid id) (filter (has_parent id) content.nodes) (kids id)

    -- what stands below an object says nothing of it
    none_under : (place : Place) (node : Node) (user : List ℕ)
        → said_in (rows_under place node) (path_text place.path) user ≡ None
    none_under place node user =
        said_none (path_text place.path) user
        (λ child. rows_in most (place_below place node child) child) (children_of content node.id)
        (each_weaker (IsKid node.id) (λ child. said_in
        (rows_in most (place_below place node child) child) (path_text place.path) user ≡ None)
        (search (rules, elsewhere, place, node, place.path, append_assoc, goes_further))
        (children_of content node.id) (kids_sorted node.id))

    -- of what stands below an object, the child's rows alone go on by its name
    module _ (place : Place) (node child : Node) (is : IsKid node.id child)
        (here : list_any (λ other. same_text other.name child.name) (children_of content node.id)
        ≡ true) where
      abbrev in_child : Node → List (List (List ℕ))
      in_child other = rows_in most (place_below place node other) other

      child_alone : (user : List ℕ) (rest : List (List ℕ))
          → said_in (rows_under place node)
          (path_text ((place.path ++ child.name ∷ []) ++ rest)) user
          ≡ said_in (in_child child) (path_text ((place.path ++ child.name ∷ []) ++ rest)) user
      child_alone user rest =
          said_those other user in_child (λ n. same_text n.name child.name)
          (said_in (in_child child) other user) (children_of content node.id)
          (each_weaker (IsKid node.id) (λ n. said_in (in_child n) other user
          ≡ cond (same_text n.name child.name) (said_in (in_child child) other user) None)
          (λ n kid. on n (same_text n.name child.name) refl kid)
          (children_of content node.id) (kids_sorted node.id))
          ∙ ap (λ t. cond t (said_in (in_child child) other user) None) here
        where
          other : List ℕ
          other = path_text ((place.path ++ child.name ∷ []) ++ rest)

          on : (n : Node) (t : Bool) → same_text n.name child.name ≡ t → IsKid node.id n
              → said_in (in_child n) other user
              ≡ cond t (said_in (in_child child) other user) None
          on n true same kid =
              let found =
              ap (child_of content node.id) (sym (same_text-true n.name child.name same))
              ∙ kid.0 in
              ap (λ m. said_in (in_child m) other user)
              (some_same n child (sym found ∙ is.0))
          on n false apart kid =
              elsewhere most (place_below place node n) n other user
              (search (rules, append_assoc, goes_apart))

    -- ---- one of the parties, at an object and at all below it

    module _ (party : Party) (one : Each (λ other. same_text other.label party.label ≡ true
        → other ≡ party) parties)
        (among : list_any (λ other. same_text other.label party.label) parties ≡ true) where
      abbrev pub grant_at : Place → Node → List ℕ × Bool
      grant_at place node = granted party.caller place.above (site_of place node)

      abbrev pub value_at : Place → Node → List ℕ × List ℕ
      value_at place node = printed (grant_at place node)

      -- a row that is left out says what the folder's row says
      left_out : (place : Place) (node child : Node)
          → option_or (said_in (object_rows all parties (place_below place node child) child)
          (path_text (place_below place node child).path) party.label)
          (Some (value_at place node))
          ≡ Some (value_at (place_below place node child) child)
      left_out place node child =
          ap (λ o. option_or o (Some (value_at place node)))
          (said_here below.above (site_of below child) party all parties one among)
          ∙ on all (repeats party.caller below.above (site_of below child)) refl
        where
          below : Place
          below = place_below place node child

          same : repeats party.caller below.above (site_of below child) ≡ true
              → value_at place node ≡ value_at below child
          same is =
              let kept = λ (o : Option Site) (front : List Site). option_map_or
              (λ folder. same_grant (grant_at below child) (granted party.caller front folder)) o
              false in
              ap printed
              (sym (same_grants (grant_at below child) (grant_at place node)
              (search (rules, kept, last_after, place.above, place, node, before_after))))

          on : (a r : Bool) → repeats party.caller below.above (site_of below child) ≡ r
              → option_or (cond (a || not r) (Some (value_at below child)) None)
              (Some (value_at place node)) ≡ Some (value_at below child)
          on true r is = refl
          on false false is = refl
          on false true is = ap Some (same is)

      -- the answers that all objects of the tree should have
      module _ (answer : List (List ℕ) → List ℕ × Bool) where
        abbrev pub Says : Place × Node → Type 0
        Says it = grant_at it.0 it.1 ≡ answer it.0.path

        -- the rows of an object alone, and what is said above: of it they say what it grants, and
        -- of other paths nothing
        pub record Owns (place : Place) (node : Node) (own : List (List (List ℕ)))
            (above : Option (List ℕ × List ℕ)) : Type 0 where
          pub here : option_or (said_in own (path_text place.path) party.label) above
              ≡ Some (value_at place node)
          pub others : (other : List ℕ) → same_text (path_text place.path) other ≡ false
              → said_in own other party.label ≡ None

        -- what is found that many names below an object
        abbrev pub Finds : List (List ℕ) → Place → Node → List (List (List ℕ))
            → Option (List ℕ × List ℕ) → Type 0
        Finds names place node own above =
            option_or (nearest (own ++ rows_under place node) party.label place.path names) above
            ≡ Some (printed (answer (place.path ++ names)))

        abbrev FindsBelow : List (List ℕ) → Type 0
        FindsBelow names =
            (place : Place) (node : Node) (own : List (List (List ℕ)))
            (above : Option (List ℕ × List ℕ)) (site : Site) → Reached content (node ∷ []) most
            → site_at (stored_from content place.path node names) names ≡ Some site
            → Each Says (told place node) → Owns place node own above
            → Finds names place node own above

        module _ (place : Place) (node : Node) (own : List (List (List ℕ)))
            (above : Option (List ℕ × List ℕ)) (r : Reached content (node ∷ []) most)
            (tells : Each Says (told place node)) (owns : Owns place node own above) where
          abbrev table : List (List (List ℕ))
          table = own ++ rows_under place node

          -- of the object itself its own rows speak
          own_alone : option_or (said_in table (path_text place.path) party.label) above
              ≡ Some (value_at place node)
          own_alone = grind (arith, nat_tests, none_under, or_none, said_append)

          tells_each : Says (place, node) × Each (λ child.
              Each Says (told (place_below place node child) child)) (children_of content node.id)
          tells_each =
              let parts = subst (Each Says)
              (goes_down content there [] node most r place_below (λ p n. (p, n) ∷ []) place most
              (omega arith))
              tells
              in search (rules, parts.0, each_unflat, parts.1)

          finds_itself : Finds [] place node own above
          finds_itself = grind (arith, nat_tests, append-nil, own_alone, printed, tells_each)

          module _ (more : List (List ℕ)) (site : Site) (rest : FindsBelow more) (child : Node)
              (is : child_of content node.id child.name ≡ Some child)
              (found : site_at (stored_from content (place.path ++ child.name ∷ []) child more) more
              ≡ Some site) where
            abbrev below : Place
            below = place_below place node child

            kid : IsKid node.id child
            kid = of_child (IsKid node.id) node.id child.name child (kids_sorted node.id) is

            child_reached : Reached content (child ∷ []) most
            child_reached = reached_child content there node child child.name most r is

            -- from the child's path on, its rows and those below it say all
            in_child_alone : (after : List (List ℕ))
                → said_in table (path_text (below.path ++ after)) party.label
                ≡ said_in (rows_in most below child) (path_text (below.path ++ after)) party.label
            in_child_alone after =
                let other = path_text (below.path ++ after) in
                said_append other party.label own (rows_under place node)
                ∙ ap (λ o. option_or o (said_in (rows_under place node) other party.label))
                (owns.others other (same_text-sym (path_text place.path) other
                ∙ ap (λ p. same_text (path_text p) (path_text place.path))
                (append_assoc place.path (child.name ∷ []) after)
                ∙ goes_further place.path child.name after kid.1))
                ∙ child_alone place node child kid (named_among node.id child.name child is)
                party.label after

            nearest_below : nearest table party.label below.path more
                ≡ nearest (object_rows all parties below child ++ rows_under below child)
                party.label below.path more
            nearest_below =
                same_nearest party.label table (rows_in most below child) below.path more
                in_child_alone
                ∙ ap (λ rows. nearest rows party.label below.path more)
                (goes_down content there [] child most child_reached place_below
                (object_rows all parties) below most (omega arith))

            child_owns : Owns below child (object_rows all parties below child)
                (Some (value_at place node))
            child_owns = grind (arith, nat_tests, left_out, said_elsewhere)

            finds_child : Finds (child.name ∷ more) place node own above
            finds_child =
                or_assoc (nearest table party.label below.path more)
                (said_in table (path_text place.path) party.label) above
                ∙ (λ i. option_or (nearest_below i) (own_alone i))
                ∙ rest below child (object_rows all parties below child)
                (Some (value_at place node)) site child_reached found
                (of_child (λ n. Each Says (told (place_below place node n) n)) node.id child.name
                child tells_each.1 is)
                child_owns
                ∙ ap (λ p. Some (printed (answer p)))
                (append_assoc place.path (child.name ∷ []) more)

        pub finds_below : (names : List (List ℕ)) → FindsBelow names
        finds_below [] place node own above site r found tells owns =
            finds_itself place node own above r tells owns
        finds_below (name ∷ more) place node own above site r found tells owns =
            on (child_of content node.id name) refl found
            (finds_child place node own above r tells owns more site
            (λ p n o a s r f t w. finds_below more p n o a s r f t w))
          where
            on : (o : Option Node) → child_of content node.id name ≡ o
                → site_at (option_map_or
                (λ c. stored_from content (place.path ++ name ∷ []) c more) o []) more ≡ Some site
                → ((child : Node) → child_of content node.id child.name ≡ Some child
                → site_at (stored_from content (place.path ++ child.name ∷ []) child more) more
                ≡ Some site
                → Finds (child.name ∷ more) place node own above)
                → Finds (name ∷ more) place node own above
            on None is found finds = absurd (let wrong : ⊥ = cc in wrong)
            on (Some child) is found finds =
                search (rules, child_of-name, node.id, place, node, above, place.path, site, found)
