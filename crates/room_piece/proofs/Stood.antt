-- Where objects of a room stood before a change of it.
use Rattle.std.proofs.Common.{◌≡◌, ℕ, ◌<◌, ◌==◌, ◌⊎◌, inl, inr, Bool, true, false, cond, List, []}
use Rattle.std.proofs.Common.{◌∷◌, ◌++◌, Option, Some, None, refl, sym, ap, subst, ◌∙◌, arith}
use Rattle.std.proofs.{Common.{append-nil, length}, lemmas.Bool.{cases_Bool, true≢false}}
use Rattle.std.proofs.lemmas.{Bool.Decides.nat_tests, Option.{none-some, same_Some}}
use Rattle.std.specs.{List.find, Option.{option_map, option_map_or}, Prelude.{is_none, is_some}}
use Rattle.std.specs.Prelude.{option_and_then}
use Rattle.room_entry.specs.{Pieces.same_text, declared.object.Which.TheVariants.Dacl}
use Rattle.room_entry.proofs.{Alike.text_itself, Texts.same_text-true}
use Rattle.room_ace.specs.Sent.{Sent}
use Rattle.room_rows.specs.{declared.node.Node.Node, Content.{Content, child_of, node_at, root_of}}
use Rattle.room_rows.specs.{Content.{with_each, with_node}, HeldList.Held}
use Rattle.room_rows.proofs.{InPlace.{keeps_places, node_at-with_each}, SamePlace.IsSamePlace}
use Rattle.room_machine.specs.{Effect.{moved_node, set_list}, Site.{Site, front, last_name}}
use Rattle.room_machine.specs.{Site.{parent_at, site_at, sites_along}, Step.IsFree, Plan.move_items}
use Rattle.room_machine.specs.Plan.{where_found}
use Rattle.room_laws.specs.{Outside.{found, found_from}, Tidy.{IsNumbered, IsTidy}}
use Rattle.room_laws.proofs.{Behind.{act_on, target_found}, Changed.{both, both_places, found_each}}
use Rattle.room_laws.proofs.{Changed.{list_each, nodes_found}, Grown.{GoesOn, goes_on}}
use Rattle.room_laws.proofs.{OnePlace.{found_snoc, found_there, split_last}, Orphans.orphans}
use Rattle.room_laws.proofs.{Passing.{above_found, never_meets, parent_is}, Settings.keeper}
use Rattle.room_laws.proofs.Settings.{setting}
use Rattle.room_change.specs.Changes.{Comes, Moves, Sets, changed, path_before, rest_behind}
use Rattle.room_piece.proofs.{Allowed.{Allowed, CanGo, CanPlace, can_place}, Bare.move_by}
use Rattle.room_laws.proofs.Grown as grown
use Rattle.room_laws.proofs.Moved as moved
use Rattle.room_rows.proofs.Lookups as lookups

-- ---- a path behind another one

rest_some : (names path rest : List (List ℕ)) → rest_behind names path ≡ Some rest
    → path ≡ names ++ rest
rest_some [] path rest is = same_Some path rest is
rest_some (name ∷ names) [] rest is = absurd (none-some rest is)
rest_some (name ∷ names) (other ∷ others) rest is =
    on (same_text name other) refl is (rest_some names others rest)
  where
    on : (t : Bool) → same_text name other ≡ t → cond t (rest_behind names others) None ≡ Some rest
        → (rest_behind names others ≡ Some rest → others ≡ names ++ rest)
        → other ∷ others ≡ name ∷ names ++ rest
    on true same is next =
        (λ i. sym (same_text-true name other same) i ∷ next is i)
    on false differ is next = absurd (none-some rest is)

rest_none : (names path : List (List ℕ)) → rest_behind names path ≡ None → GoesOn names path → ⊥
rest_none [] path is goes = none-some path (sym is)
rest_none (name ∷ names) [] is (rest, goes) =
    Rattle.room_laws.proofs.OnePlace.not_empty name (names ++ rest) goes
rest_none (name ∷ names) (other ∷ others) is (rest, goes) =
    on (same_text name other) refl is (λ none. rest_none names others none (rest, tail))
  where
    tail : others ≡ names ++ rest
    tail = Rattle.room_laws.proofs.OnePlace.tail_same other name others (names ++ rest) goes

    head : other ≡ name
    head = Rattle.room_laws.proofs.OnePlace.head_same other name others (names ++ rest) goes

    on : (t : Bool) → same_text name other ≡ t → cond t (rest_behind names others) None ≡ None
        → (rest_behind names others ≡ None → ⊥) → ⊥
    on true same is next = next is
    on false differ is next =
        true≢false (sym (text_itself name) ∙ ap (same_text name) (sym head) ∙ differ)

-- ---- by its number

-- The object of a number was at the path; where there is none, no object had the number.
abbrev pub WasAt : Content → ℕ → Option (List (List ℕ)) → Type 0
WasAt room id None = node_at room id ≡ None
WasAt room id (Some path) = (node : Node) × (found room path ≡ Some node) × (node.id ≡ id)

-- each object of a room was where this says
abbrev pub AllWere : Content → (List (List ℕ) → Option (List (List ℕ))) → Content → Type 0
AllWere room before after =
    (path : List (List ℕ)) (node : Node) → found after path ≡ Some node
    → WasAt room node.id (before path)

-- each number is still there
abbrev pub NumbersStay : Content → Content → Type 0
NumbersStay room after = (id : ℕ) → node_at after id ≡ None → node_at room id ≡ None

-- ---- a list that is set

module _ (room : Content) where
  pub as_it_was : AllWere room (λ path. Some path) room
  as_it_was path node is = (node, is, refl)

  -- objects that change where they stand
  each_was : (g : Node → Node) → ((n : Node) → IsSamePlace (g n) n)
      → AllWere room (λ path. Some path) (with_each room g)
  each_was g places path node is =
      on (found room path) refl (sym (found_each room g places path) ∙ is)
    where
      on : (o : Option Node) → found room path ≡ o → option_map g o ≡ Some node
          → WasAt room node.id (Some path)
      on None at is = absurd (none-some node is)
      on (Some n) at is =
          (n, at, sym (places n).number ∙ ap (λ (m : Node). m.id) (same_Some (g n) node is))

  each_stays : (g : Node → Node) → ((n : Node) → IsSamePlace (g n) n)
      → NumbersStay room (with_each room g)
  each_stays g places id none =
      on (node_at room id) refl
      (sym (node_at-with_each room g (keeps_places room g places) id) ∙ none)
    where
      on : (o : Option Node) → node_at room id ≡ o → option_map g o ≡ None
          → node_at room id ≡ None
      on None at is = at
      on (Some n) at is = absurd (none-some (g n) (sym is))

  put_stays : (new : Node) → NumbersStay room (with_node room new)
  put_stays new id none = on (cases_Bool (id == new.id))
    where
      on : ((id == new.id) ≡ true) ⊎ ((id == new.id) ≡ false) → node_at room id ≡ None
      on (inl is) =
          grind (arith, nat_tests, lookups.find-put_same new room.nodes)
      on (inr isnt) =
          grind (arith, nat_tests, lookups.find-put_other)

pub record Follows (room : Content) (before : List (List ℕ) → Option (List (List ℕ)))
    (after : Content) : Type 0 where
  pub were : AllWere room before after
  pub stay : NumbersStay room after

pub set_follows : (room : Content) → IsNumbered room → (path : List (List ℕ)) (sent : Sent)
    → Follows room (λ p. Some p) (changed room (Sets path sent))
set_follows room numbered path sent =
    act_on (Follows room (λ p. Some p)) room (site_at (sites_along room path) path) _
    (record { were = as_it_was room; stay = λ id none. none }) listed
  where
    listed : (s : Site) → site_at (sites_along room path) path ≡ Some s
        → Follows room (λ p. Some p)
        (set_list room Dacl sent (parent_at (sites_along room path) path) s)
    listed s at =
        let o = parent_at (sites_along room path) path in
        let held = (setting Dacl sent o s).0 in
        let keep : Node → Held =
        keeper Dacl (setting Dacl sent o s).1 held.flags.auto (setting Dacl sent o s).2 in
        let there = target_found room path s at in
        let same = list_each room numbered path s.node there Dacl held keep in
        let g = both room numbered path s.node there Dacl held keep in
        let places = both_places room numbered path s.node there Dacl held keep in
        subst (Follows room (λ p. Some p)) (sym same)
        (record { were = each_was room g places; stay = each_stays room g places })

-- ---- an object that is moved

module _ (room : Content) (numbered : IsNumbered room) (tidy : IsTidy room) where
  module _ (name : List ℕ) (names : List (List ℕ)) (target : Node)
      (at : found room (name ∷ names) ≡ Some target)
      (from : Node) (above : found room (front (name ∷ names)) ≡ Some from)
      (first : List ℕ) (more : List (List ℕ)) (folder : Node)
      (place : found room (front (first ∷ more)) ≡ Some folder)
      (absent : found room (first ∷ more) ≡ None)
      (no_loop : GoesOn (name ∷ names) (front (first ∷ more)) → ⊥)
      (new : Node) (number : new.id ≡ target.id) (parent : new.parent ≡ Some folder.id)
      (named : new.name ≡ last_name (first ∷ more)) where
    abbrev old_path : List (List ℕ)
    old_path = name ∷ names

    abbrev new_path : List (List ℕ)
    new_path = first ∷ more

    abbrev after : Content
    after = with_node room new

    there_new : found after new_path ≡ Some new
    there_new = moved.found_new room numbered tidy.names name names target at from above first more
        folder place absent no_loop new number parent named

    beyond : (rest path : List (List ℕ)) (node : Node) → path ≡ new_path ++ rest
        → found after path ≡ Some node → WasAt room node.id (Some (old_path ++ rest))
    beyond [] path node goes is =
        let here : path ≡ new_path = goes ∙ append-nil new_path in
        let same : new ≡ node =
        same_Some new node (sym there_new ∙ ap (found after) (sym here) ∙ is) in (
          target,
          ap (found room) (append-nil old_path) ∙ at,
          sym number ∙ ap (λ (n : Node). n.id) same,
        )
    beyond (x ∷ rest) path node goes is = (
      node,
      sym (moved.found_below room numbered tidy.names name names target at from above first more
          folder place absent no_loop new number parent named x rest)
          ∙ ap (found after) (sym goes) ∙ is,
      refl,
    )

    elsewhere : (path : List (List ℕ)) (node : Node) → (GoesOn new_path path → ⊥)
        → found after path ≡ Some node → WasAt room node.id (Some path)
    elsewhere path node not_new is = on (goes_on old_path path)
      where
        on : GoesOn old_path path ⊎ (GoesOn old_path path → ⊥) → WasAt room node.id (Some path)
        on (inl (rest, goes)) =
            absurd (none-some node
            (sym (moved.found_old room numbered tidy.names name names target at from above first
            more folder place absent no_loop new number parent named rest)
            ∙ ap (found after) (sym goes) ∙ is))
        on (inr not_old) = (
          node,
          sym (moved.moved_apart room numbered tidy.names name names target at from above first
              more folder place absent no_loop new number parent named path not_old not_new) ∙ is,
          refl,
        )

    went : AllWere room (path_before (Moves old_path new_path)) after
    went path node is = on (rest_behind new_path path) refl
      where
        to_there : Option (List (List ℕ)) → Option (List (List ℕ))
        to_there o = option_map_or (λ rest. Some (old_path ++ rest)) o (Some path)

        on : (o : Option (List (List ℕ))) → rest_behind new_path path ≡ o
            → WasAt room node.id (to_there (rest_behind new_path path))
        on None none =
            subst (WasAt room node.id) (ap to_there (sym none))
            (elsewhere path node (rest_none new_path path none) is)
        on (Some rest) some =
            subst (WasAt room node.id) (ap to_there (sym some))
            (beyond rest path node (rest_some new_path path rest some) is)

  -- the same of sites
  module _ (root : Node) (is_root : root_of room ≡ Some root) where
    no_child : (o : Option Node) → is_some o ≡ false → o ≡ None
    no_child None is = refl
    no_child (Some n) is = absurd (true≢false is)

    abbrev WentTo : List (List ℕ) → List (List ℕ) → Content → Type 0
    WentTo path to after = Follows room (path_before (Moves path to)) after

    placed : (name : List ℕ) (names : List (List ℕ)) (first : List ℕ) (more : List (List ℕ))
        (target from : Site)
        → site_at (sites_along room (name ∷ names)) (name ∷ names) ≡ Some target
        → parent_at (sites_along room (name ∷ names)) (name ∷ names) ≡ Some from
        → (can : CanPlace room root is_root (first ∷ more) target)
        → WentTo (name ∷ names) (first ∷ more)
        (with_node room (moved_node target can.folder (last_name (first ∷ more))))
    placed name names first more target from at above can = record {
      were = went name names target.node there from.node (parent_is room name names from above) first
          more can.folder.node place absent
          (never_meets room (name ∷ names) (front (first ∷ more)) target.node there can.no_loop) new
          refl refl refl;
      stay = put_stays room new;
    }
      where
        new : Node
        new = moved_node target can.folder (last_name (first ∷ more))

        there : found room (name ∷ names) ≡ Some target.node
        there = target_found room (name ∷ names) target at

        place : found room (front (first ∷ more)) ≡ Some can.folder.node
        place = target_found room (front (first ∷ more)) can.folder can.at

        absent : found room (first ∷ more) ≡ None
        absent =
            ap (found room) (split_last first more)
            ∙ found_snoc room (front (first ∷ more)) (last_name (first ∷ more))
            ∙ ap (option_and_then
            (λ (n : Node). child_of room n.id (last_name (first ∷ more)))) place
            ∙ no_child (child_of room can.folder.node.id (last_name (first ∷ more))) can.free

    pub moves_down : (path to : List (List ℕ)) (can : CanGo room root is_root path to)
        → WentTo path to (changed room (Moves path to))
    moves_down [] to can = absurd (true≢false can.below)
    moves_down (name ∷ names) to can =
        on (parent_at (sites_along room (name ∷ names)) (name ∷ names)) refl
      where
        path : List (List ℕ)
        path = name ∷ names

        to_folder : (to : List (List ℕ)) (from : Site)
            → parent_at (sites_along room path) path ≡ Some from
            → Allowed (move_items (sites_along room) room to can.target from)
            → WentTo path to (changed room (Moves path to))
        to_folder [] from above all = absurd (true≢false all.0)
        to_folder (first ∷ more) from above all =
            let place = can_place room root is_root first more can.target from all in
            subst (WentTo path (first ∷ more))
            (sym (ap (λ o. move_by (first ∷ more) room o
            (site_at (sites_along room (front (first ∷ more))) (front (first ∷ more)))) can.at
            ∙ ap (λ o. move_by (first ∷ more) room (Some can.target) o) place.at))
            (placed name names first more can.target from can.at above place)

        on : (o : Option Site) → parent_at (sites_along room path) path ≡ o
            → WentTo path to (changed room (Moves path to))
        on None none =
            let above = above_found room name names can.target.node
            (target_found room path can.target can.at) in
            absurd (none-some above.0 (sym none ∙ above.1))
        on (Some from) above =
            to_folder to from above
            (subst (λ (o : Option Site). Allowed (where_found o
            (move_items (sites_along room) room to can.target))) above can.rest)

  -- ---- an object that comes

  module _ (name : List ℕ) (names : List (List ℕ)) (folder : Node)
      (at : found room (front (name ∷ names)) ≡ Some folder)
      (absent : found room (name ∷ names) ≡ None)
      (new : Node) (free : IsFree room new.id) (parent : new.parent ≡ Some folder.id)
      (named : new.name ≡ last_name (name ∷ names)) where
    abbrev come_path : List (List ℕ)
    come_path = name ∷ names

    abbrev come_after : Content
    come_after = with_node room new

    childless : (x : List ℕ) → child_of room new.id x ≡ None
    childless = orphans room numbered tidy new.id free

    unused : node_at room new.id ≡ None
    unused = no_node (node_at room new.id) free.1
      where
        no_node : (o : Option Node) → is_none o ≡ true → o ≡ None
        no_node None is = refl
        no_node (Some n) is = absurd (true≢false (sym is))

    came_here : (rest path : List (List ℕ)) (node : Node) → path ≡ come_path ++ rest
        → found come_after path ≡ Some node → node_at room node.id ≡ None
    came_here [] path node goes is =
        let same : new ≡ node =
        same_Some new node (sym (grown.found_new room numbered name names folder at absent new free
        parent named childless)
        ∙ ap (found come_after) (sym (goes ∙ append-nil come_path)) ∙ is) in
        ap (λ (n : Node). node_at room n.id) (sym same) ∙ unused
    came_here (x ∷ rest) path node goes is =
        absurd (none-some node (sym nothing ∙ is))
      where
        nothing : found come_after path ≡ None
        nothing =
            ap (found come_after) goes
            ∙ Rattle.room_laws.proofs.Grown.found_append come_after come_path (x ∷ rest)
            ∙ ap (option_and_then
            (λ (n : Node). found_from come_after n (x ∷ rest)))
            (grown.found_new room numbered name names folder at absent new free parent named childless)
            ∙ ap (option_and_then
            (λ (n : Node). found_from come_after n rest))
            (grown.none_below room numbered name names folder at absent new free parent named
            childless x)

    came : AllWere room (path_before (Comes come_path new)) come_after
    came path node is = on (rest_behind come_path path) refl
      where
        to_there : Option (List (List ℕ)) → Option (List (List ℕ))
        to_there o = option_map_or (λ rest. None) o (Some path)

        on : (o : Option (List (List ℕ))) → rest_behind come_path path ≡ o
            → WasAt room node.id (to_there (rest_behind come_path path))
        on None none =
            subst (WasAt room node.id) (ap to_there (sym none)) (
              node,
              sym (grown.grown_other room numbered name names folder at absent new free parent named
                  childless path (λ same. rest_none come_path path none ([], same ∙ sym (append-nil come_path))))
                  ∙ is,
              refl,
            )
        on (Some rest) some =
            subst (WasAt room node.id) (ap to_there (sym some))
            (came_here rest path node (rest_some come_path path rest some) is)

  pub come_follows : (path : List (List ℕ)) → 0 < length path → (folder : Node)
      → found room (front path) ≡ Some folder → child_of room folder.id (last_name path) ≡ None
      → (new : Node) → IsFree room new.id → new.parent ≡ Some folder.id
      → new.name ≡ last_name path → Follows room (path_before (Comes path new)) (with_node room new)
  come_follows [] some folder at none new free parent named =
      absurd (let wrong : ⊥ = omega arith in wrong)
  come_follows (name ∷ names) some folder at none new free parent named = record {
    were = came name names folder at absent new free parent named;
    stay = put_stays room new;
  }
    where
      absent : found room (name ∷ names) ≡ None
      absent =
          ap (found room) (split_last name names)
          ∙ found_snoc room (front (name ∷ names)) (last_name (name ∷ names))
          ∙ ap (option_and_then (λ (n : Node). child_of room n.id (last_name (name ∷ names)))) at
          ∙ none

-- where the objects are the same
pub nodes_follow : (room : Content) (before : List (List ℕ) → Option (List (List ℕ))) (a c : Content)
    → c.nodes ≡ a.nodes → Follows room before a → Follows room before c
nodes_follow room before a c same is = record {
  were = λ path node at. is.were path node (sym (nodes_found a c same path) ∙ at);
  stay = λ id none. is.stay id (ap (λ (nodes : List Node). find (λ (n : Node). n.id == id) nodes)
      (sym same) ∙ none);
}
